-- the walk is on the way of the address, and each row of the family stands ahead of it or is done
use Rattle.std.proofs.Common.{◌≡◌, ℕ, ◌-◌, ◌<◌, ◌⊎◌, length}
use Rattle.ip_table.specs.Bits.{width_of}
use Rattle.ip_table.specs.Trees.{SharesBits, IsTrueOf, IsDone, StandsBelow, prefix_at, fork_at}
use Rattle.ip_table.proofs.walk.walk_of_v4.Given as goal

abbrev pub invariant-loop-address : goal.invariant-loop-address
invariant-loop-address l = record {
  within : l.at < length l.forks;
  level : l.place ≡ 255 - (fork_at l.forks l.at).depth;
  meets : SharesBits l.prefixes l.forks l.address l.at;
  sound : IsTrueOf l.prefixes l.address l.walked;
  each : (row : ℕ) → row < length l.prefixes
      → width_of (prefix_at l.prefixes row).address ≡ width_of l.address
      → StandsBelow l.forks l.at row ⊎ IsDone l.prefixes l.address l.walked row;
}

abbrev pub decreases-loop-address : goal.decreases-loop-address
decreases-loop-address l = 129 - (fork_at l.forks l.at).depth
