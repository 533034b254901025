use Rattle.std.proofs.Common.{◌≡◌, ◌++◌, take, drop}
use Rattle.cidr_blocks.specs.Prefixes.{Prefix}
use Rattle.cidr_changes.specs.Gathered.{with_row}
use Rattle.cidr_changes.proofs.gathering.spot_of.Given as goal

abbrev pub invariant-loop-i : goal.invariant-loop-i
invariant-loop-i l = (block : Prefix) → with_row l.name block l.locations
    ≡ take l.i l.locations ++ with_row l.name block (drop l.i l.locations)
