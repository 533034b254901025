use Rattle.std.proofs.Common.{◌≡◌, take}
use Rattle.alias_links.specs.After.{sets_in}
use Rattle.alias_links.specs.Aliases.{kept_of}
use Rattle.alias_links.proofs.aliases.kept_aliases.Given as goal

abbrev pub invariant-loop-i : goal.invariant-loop-i
invariant-loop-i l =
    l.kept.items ≡ kept_of l.remove (take l.i (sets_in l.zones.zones l.zone))
