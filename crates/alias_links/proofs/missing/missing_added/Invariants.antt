use Rattle.std.proofs.Common.{take}
use Rattle.alias_links.specs.After.{changed_in}
use Rattle.alias_links.specs.Leasts.{LeastOrNone}
use Rattle.zone_table.specs.Walks.{HasNoTarget}
use Rattle.alias_links.proofs.missing.missing_added.Given as goal

abbrev pub invariant-loop-i : goal.invariant-loop-i
invariant-loop-i l =
    LeastOrNone (HasNoTarget (changed_in l.zones.zones l.zone l.remove l.add)) (take l.i l.add)
    l.least
