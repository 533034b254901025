-- Texts that are written to a place of a buffer.
use Rattle.std.specs.Prelude.{◌≡◌, ℕ, ◌+◌, List, ◌++◌, length, take, drop}

-- A text was written at a place and ends there, and nothing behind it has changed.
pub record Wrote (before after : List ℕ) (at end : ℕ) (text : List ℕ) : Type 0 where
  pub end_is : end ≡ at + length text
  pub written : take end after ≡ take at before ++ text
  pub kept : drop end after ≡ drop end before
