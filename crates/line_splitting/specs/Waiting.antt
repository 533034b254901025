-- The bytes that wait in the buffer.
use Rattle.std.specs.Prelude.{◌≡◌, ℕ, ◌+◌, ◌≤◌, List, [], ◌++◌, length, take, drop, Option, Some, ⊤}
use Rattle.r53_io.specs.declared.streams.Got.{Got}
use Rattle.r53_io.specs.declared.streams.Got.TheVariants.{Bytes, Failed}

-- a line that was given, and the bytes that wait
pub record Waiting : Type 0 where
  pub line : List ℕ
  pub waiting : List ℕ

-- what a read of at most so many bytes leaves of what waits, whatever the source tells
abbrev pub Grows : (old : List ℕ) → Got → (most : ℕ) → (new : List ℕ) → Type 0
Grows old (Bytes n) most new =
    (n ≤ most) × (length new ≡ length old + n) × (take (length old) new ≡ old)
Grows old Failed most new = new ≡ old

-- n bytes of those that were left stand behind the others
pub record Adds (left : List ℕ) (after : Option (List ℕ)) (n : ℕ) (old new : List ℕ) : Type 0 where
  pub within : n ≤ length left
  pub rest : after ≡ Some (drop n left)
  pub bytes : new ≡ old ++ take n left
  pub at_end : n ≡ 0 → left ≡ []

abbrev pub Takes : (left : List ℕ) (after : Option (List ℕ)) → Got → (old new : List ℕ) → Type 0
Takes left after (Bytes n) old new = Adds left after n old new
Takes left after Failed old new = after ≡ Some left

-- The same in the buffer, in which so many bytes stood at the front: the read stays within it.
abbrev pub GrowsIn : (at : ℕ) → Got → (most room : ℕ) → Type 0
GrowsIn at (Bytes n) most room = (n ≤ most) × (at + n ≤ room)
GrowsIn at Failed most room = ⊤

pub record AddsIn (left : List ℕ) (after : Option (List ℕ)) (n at : ℕ) (old new : List ℕ)
    : Type 0 where
  pub within : n ≤ length left
  pub rest : after ≡ Some (drop n left)
  pub bytes : take (at + n) new ≡ take at old ++ take n left
  pub at_end : n ≡ 0 → left ≡ []

abbrev pub TakesIn : (left : List ℕ) (after : Option (List ℕ)) → Got → (at : ℕ)
    → (old new : List ℕ) → Type 0
TakesIn left after (Bytes n) at old new = AddsIn left after n at old new
TakesIn left after Failed at old new = after ≡ Some left
