-- A slot, as contracts see it.
use Rattle.std.specs.Prelude.{ℕ}

-- The handle of a set's octets, what its name tells, and the number of its zone; or the next free
-- slot.
pub record Slot : Type 0 where
  pub cell : ℕ
  pub tag : ℕ
  pub zone : ℕ
