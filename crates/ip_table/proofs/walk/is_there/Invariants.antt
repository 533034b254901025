-- a row that has the prefix stands here or further on
use Rattle.std.proofs.Common.{◌≡◌, ℕ, ◌-◌, ◌<◌, length}
use Rattle.ip_table.specs.Trees.{StandsBelow, prefix_at, fork_at}
use Rattle.ip_table.proofs.walk.is_there.Given as goal

abbrev pub invariant-loop-prefix : goal.invariant-loop-prefix
invariant-loop-prefix l = record {
  within : l.at < length l.forks;
  ahead : (row : ℕ) → row < length l.prefixes → prefix_at l.prefixes row ≡ l.prefix
      → StandsBelow l.forks l.at row;
}

abbrev pub decreases-loop-prefix : goal.decreases-loop-prefix
decreases-loop-prefix l = 129 - (fork_at l.forks l.at).depth
