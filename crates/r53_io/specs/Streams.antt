-- What one read takes of a source, and what one write adds to a sink.
use Rattle.std.specs.Prelude.{◌≡◌, ℕ, ◌<◌, ◌≤◌, List, [], ◌++◌, length, take, drop, Option, Some, ⊤}
use Rattle.r53_io.specs.declared.streams.Got.{Got}
use Rattle.r53_io.specs.declared.streams.Got.TheVariants.{Bytes, Failed}

-- the number of bytes is within the slice
abbrev pub IsWithin : Got → ℕ → Type 0
IsWithin (Bytes n) most = n ≤ most
IsWithin Failed most = ⊤

-- A read that answers n: the first n of the bytes left lie at the front of the slice, and the
-- rest is left. It answers 0 into a slice with room only at the end.
pub record Takes (left : List ℕ) (after : Option (List ℕ)) (n : ℕ) (room : ℕ)
    (into : List ℕ) : Type 0 where
  pub within : n ≤ length left
  pub after_it : after ≡ Some (drop n left)
  pub bytes : take n into ≡ take n left
  pub at_end : n ≡ 0 → 0 < room → left ≡ []

-- What a read leaves of the source's bytes and puts into the slice. One that fails takes and
-- gives nothing.
abbrev pub ReadGives : (left : List ℕ) (after : Option (List ℕ)) → Got → (old new : List ℕ) → Type 0
ReadGives left after (Bytes n) old new = Takes left after n (length old) new
ReadGives left after Failed old new = (after ≡ Some left) × (new ≡ old)

-- What a write leaves in the sink: its first n bytes are appended. One that fails appends nothing.
abbrev pub WriteLeaves : (held : List ℕ) (after : Option (List ℕ)) → Got → (from : List ℕ) → Type 0
WriteLeaves held after (Bytes n) from = after ≡ Some (held ++ take n from)
WriteLeaves held after Failed from = after ≡ Some held

-- what holds of the number of bytes, where there is one
abbrev pub IfBytes : Got → (ℕ → Type 0) → Type 0
IfBytes (Bytes n) P = P n
IfBytes Failed P = ⊤
