-- Bytes that are written to a place.
use Rattle.std.specs.Prelude.{ℕ, ◌+◌, List, ◌++◌, length, take, drop}

-- what a buffer is once a piece stands at a place
abbrev pub written : List ℕ → ℕ → List ℕ → List ℕ
written buffer at piece = take at buffer ++ piece ++ drop (at + length piece) buffer
