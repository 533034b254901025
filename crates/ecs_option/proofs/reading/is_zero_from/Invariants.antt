-- the bits so far are 0
use Rattle.std.proofs.Common.{◌≡◌, ◌<◌, ◌≤◌, ℕ}
use Rattle.ecs_option.specs.Grammar.{bit_at}
use Rattle.ecs_option.proofs.reading.is_zero_from.Given as goal

abbrev pub invariant-loop-place : goal.invariant-loop-place
invariant-loop-place l = (at : ℕ) → l.from ≤ at → at < l.place → bit_at l.bytes at ≡ 0
