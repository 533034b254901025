use Rattle.std.proofs.Common.{◌≡◌, ◌++◌, map, drop}
use Rattle.cidr_commands.specs.Commands.{with_locations_at}
use Rattle.cidr_commands.proofs.steps.replaced.Given as goal

abbrev pub invariant-loop-held : goal.invariant-loop-held
invariant-loop-held l =
    l.v.items ++ map (with_locations_at l.id l.locations) (drop l.held-index l.list)
    ≡ map (with_locations_at l.id l.locations) l.list
