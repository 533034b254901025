use Rattle.std.proofs.Common.{◌≡◌, drop}
use Rattle.cidr_commands.specs.Commands.{any_has_block}
use Rattle.cidr_commands.proofs.steps.has_block.Given as goal

abbrev pub invariant-loop-location : goal.invariant-loop-location
invariant-loop-location l =
    any_has_block (drop l.location-index l.locations) ≡ any_has_block l.locations
