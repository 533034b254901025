-- A text at the front of an array.
use Rattle.std.specs.Prelude.{◌≡◌, ℕ, ◌-◌, List, ◌++◌, length, take}
use Rattle.std.proofs.Math.ListN.{replicate}

-- the text, and zeros behind it up to so many bytes
abbrev pub padded : (most : ℕ) → List ℕ → List ℕ
padded most text = text ++ replicate (most - length text) 0

-- the first n bytes of the array are the text, and zeros stand behind it
pub record IsPadded (array : List ℕ) (n most : ℕ) : Type 0 where
  pub size : length (take n array) ≡ n
  pub bytes : array ≡ padded most (take n array)
