use Rattle.std.proofs.Common.{◌≡◌, drop}
use Rattle.std.specs.List.{list_any}
use Rattle.dns_name.specs.Order.{same_labels}
use Rattle.zone_commands.proofs.opening.has_server.Given as goal

abbrev pub invariant-loop-other : goal.invariant-loop-other
invariant-loop-other l =
    list_any (same_labels l.server) (drop l.other-index l.others)
    ≡ list_any (same_labels l.server) l.others
