-- a row of the family is carried, and there is room for one more fork
use Rattle.std.proofs.Common.{◌≡◌, ◌-◌, length, vec_len, vec_capacity}
use Rattle.ip_table.specs.Bits.{width_of}
use Rattle.ip_table.specs.Trees.{IsCarried, prefix_at, fork_at}
use Rattle.ip_table.proofs.place.place.Given as goal

abbrev pub invariant-loop-row : goal.invariant-loop-row
invariant-loop-row l = record {
  carried : IsCarried l.prefixes l.forks.items (width_of (prefix_at l.prefixes l.fn.row).address)
      l.at l.carried;
  long : length l.forks.items ≡ length l.fn.forks.items;
  len : vec_len l.forks ≡ vec_len l.fn.forks;
  room : vec_capacity l.forks ≡ vec_capacity l.fn.forks;
}

abbrev pub decreases-loop-row : goal.decreases-loop-row
decreases-loop-row l = 129 - (fork_at l.forks.items l.at).depth
