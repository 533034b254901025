use Rattle.std.proofs.Common.{◌≡◌, ◌≤◌, ◌<◌, ◌+◌, ◌-◌, ◌^◌, ℕ, length, vec_len, vec_capacity}
use Rattle.octet_region.specs.Shape.{octets_of, IsIntact}
use Rattle.octet_region.proofs.growth.give_cells.Given as goal

abbrev pub invariant-loop : goal.invariant-loop
invariant-loop l = record {
  sound : IsIntact l.cells.items l.free (l.spare + l.counter);
  room : vec_len l.cells + (l.more - l.counter) ≤ vec_capacity l.cells;
  few : vec_len l.cells + (l.more - l.counter) < 2 ^ 27;
  count : length l.cells.items ≡ length l.fn.cells.items + l.counter;
  same : (handle : ℕ) → octets_of l.cells.items handle ≡ octets_of l.fn.cells.items handle;
}
