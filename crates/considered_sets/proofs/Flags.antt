-- The considered sets and their places.
use Rattle.std.proofs.Common.{◌≡◌, ◌≢◌, ◌<◌, ◌≤◌, ◌+◌, ◌↔◌, ℕ, zero, suc, Bool, true, false, List, [], ◌∷◌, length, map, get_or, slice_get, Some, arith, refl, sym, ap, ◌∙◌, inl, inr, if◌then◌else◌, subst}
use Rattle.std.specs.List.{Contains}
use Rattle.std.proofs.lemmas.List.{get_or_default}
use Rattle.considered_sets.specs.Considered.{some_healthy, considered, places_from, places, IsConsidered}

some_flag : (hs : List Bool) (k : ℕ) → slice_get hs k ≡ Some true → some_healthy hs ≡ true
some_flag [] k e = absurd (let no : ⊥ = cc in no)
some_flag (true ∷ hs) k e = refl
some_flag (false ∷ hs) zero e = absurd (let no : ⊥ = cc in no)
some_flag (false ∷ hs) (suc k) e = some_flag hs k e

flag_of : (hs : List Bool) (k : ℕ) → slice_get hs k ≡ Some true → get_or hs k false ≡ true
flag_of [] k e = absurd (let no : ⊥ = cc in no)
flag_of (h ∷ hs) zero e = cc
flag_of (h ∷ hs) (suc k) e = flag_of hs k e

flag_is : (hs : List Bool) (k : ℕ) → get_or hs k false ≡ true → slice_get hs k ≡ Some true
flag_is [] k e = absurd (let no : ⊥ = cc in no)
flag_is (h ∷ hs) zero e = ap Some e
flag_is (h ∷ hs) (suc k) e = flag_is hs k e

no_flag : (hs : List Bool) → some_healthy hs ≡ false → (k : ℕ) → slice_get hs k ≢ Some true
no_flag hs none k e = let no : true ≡ false = sym (some_flag hs k e)
    ∙ none in let never : ⊥ = cc in never

none_flag : (hs : List Bool) → ((j : ℕ) → slice_get hs j ≢ Some true) → some_healthy hs ≡ false
none_flag [] none = refl
none_flag (true ∷ hs) none = absurd (none 0 refl)
none_flag (false ∷ hs) none = none_flag hs (λ j. none (suc j))

each_flag : (hs : List Bool) (k : ℕ) → k < length hs → get_or (map (λ h. true) hs) k false ≡ true
each_flag [] k lt = absurd (omega arith)
each_flag (h ∷ hs) zero lt = refl
each_flag (h ∷ hs) (suc k) lt = each_flag hs k (omega arith)

within_flag : (hs : List Bool) (k : ℕ) → get_or (map (λ h. true) hs) k false ≡ true → k < length hs
within_flag [] k e = absurd (let no : ⊥ = cc in no)
within_flag (h ∷ hs) zero e = omega arith
within_flag (h ∷ hs) (suc k) e = omega (arith, within_flag hs k e)

pub considered_flag : (hs : List Bool) (k : ℕ) → IsConsidered hs k
    → get_or (considered hs) k false ≡ true
considered_flag hs k (inl e) = rw (some_flag hs k e) (flag_of hs k e)
considered_flag hs k (inr (lt, none)) = rw (none_flag hs none) (each_flag hs k lt)

flag_considered : (hs : List Bool) (k : ℕ) → get_or (considered hs) k false ≡ true
    → IsConsidered hs k
flag_considered hs k = go (some_healthy hs) refl where
  go : (s : Bool) → some_healthy hs ≡ s
      → get_or (if s then hs else map (λ h. true) hs) k false ≡ true → IsConsidered hs k
  go true e f = inl (flag_is hs k f)
  go false e f = inr (within_flag hs k f, no_flag hs e)

-- each place comes from a flag, and each flag gives a place
from_flag : (at i : ℕ) (hs : List Bool) → i < length (places_from at hs)
    → (j : ℕ) × (at + j ≡ get_or (places_from at hs) i 0) × (get_or hs j false ≡ true)
from_flag at i [] lt = absurd (omega arith)
from_flag at zero (true ∷ hs) lt = (0, omega arith, refl)
from_flag at (suc i) (true ∷ hs) lt = let r = from_flag (at + 1) i hs (omega arith) in
    (suc (r.0), omega (arith, r.1), r.2)
from_flag at i (false ∷ hs) lt = let r = from_flag (at + 1) i hs lt in
    (suc (r.0), omega (arith, r.1), r.2)

to_place : (at j : ℕ) (hs : List Bool) → get_or hs j false ≡ true
    → (i : ℕ) × (i < length (places_from at hs)) × (get_or (places_from at hs) i 0 ≡ at + j)
to_place at j [] e = absurd (let no : ⊥ = cc in no)
to_place at zero (true ∷ hs) e = (0, omega arith, omega arith)
to_place at zero (false ∷ hs) e = absurd (let no : ⊥ = cc in no)
to_place at (suc j) (true ∷ hs) e = let r = to_place (at + 1) j hs e in
    (suc (r.0), omega (arith, r.1), omega (arith, r.2))
to_place at (suc j) (false ∷ hs) e = let r = to_place (at + 1) j hs e in
    (r.0, r.1, omega (arith, r.2))

-- places rise
above : (at i : ℕ) (hs : List Bool) → i < length (places_from at hs)
    → at ≤ get_or (places_from at hs) i 0
above at i hs lt = let r = from_flag at i hs lt in omega (arith, r.1)

rise : (at i j : ℕ) (hs : List Bool) → i < j → j < length (places_from at hs)
    → get_or (places_from at hs) i 0 < get_or (places_from at hs) j 0
rise at i j [] before lt = absurd (omega arith)
rise at i zero (true ∷ hs) before lt = absurd (omega arith)
rise at zero (suc j) (true ∷ hs) before lt = omega (arith, above (at + 1) j hs (omega arith))
rise at (suc i) (suc j) (true ∷ hs) before lt = rise (at + 1) i j hs (omega arith) (omega arith)
rise at i j (false ∷ hs) before lt = rise (at + 1) i j hs before lt

pub in_order : (hs : List Bool) (i j : ℕ) → i < j → j < length (places hs)
    → get_or (places hs) i 0 < get_or (places hs) j 0
in_order hs i j before lt = rise 0 i j (considered hs) before lt

pub place_considered : (hs : List Bool) (i : ℕ) → i < length (places hs)
    → IsConsidered hs (get_or (places hs) i 0)
place_considered hs i lt =
    let r = from_flag 0 i (considered hs) lt in
    let e : r.0 ≡ get_or (places hs) i 0 = omega (arith, r.1) in
    subst (IsConsidered hs) e (flag_considered hs (r.0) (r.2))

pub listed : (hs : List Bool) (k : ℕ) → Contains (places hs) k ↔ IsConsidered hs k
listed hs k = (
  λ (i, lt, e). subst (IsConsidered hs) (get_or_default (places hs) i 0 k lt
      ∙ e) (place_considered hs i lt),
  λ is. let r = to_place 0 k (considered hs) (considered_flag hs k is) in
      let e : get_or (places hs) (r.0) 0 ≡ k = omega (arith, r.2) in
      (r.0, r.1, get_or_default (places hs) (r.0) k 0 (r.1) ∙ e),
)
