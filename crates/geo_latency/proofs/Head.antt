-- The first of the considered sets of which the region comes first.
use Rattle.std.proofs.Common.{◌≡◌, ◌<◌, ◌+◌, ◌||◌, ℕ, zero, suc, Bool, true, false, not, Option, List, [], ◌∷◌, length, map, get_or}
use Rattle.std.proofs.Common.{arith, refl, sym, ap, ◌∙◌, if◌then◌else◌}
use Rattle.std.specs.Prelude.{slice_index}
use Rattle.std.specs.List.{filter, list_any}
use Rattle.considered_sets.proofs.Places.{noted_is, some_considered}
use Rattle.considered_sets.specs.Considered.{places_from, some_healthy}
use Rattle.geo_latency.specs.First.{ComesFirst, is_considered}
use Rattle.geo_latency.specs.Regions.{is_before, first_of, chosen}
use Rattle.geo_latency.specs.declared.regions.First.{First}

-- the places of the considered sets, where the first has this place
abbrev pub listed : Bool → ℕ → List Bool → List ℕ
listed all at hs = places_from at (map (λ h. h || all) hs)

or_true : (b : Bool) → b || true ≡ true
or_true true = refl
or_true false = refl

none_listed : (all : Bool) (at : ℕ) (hs : List Bool)
    → ((j : ℕ) → j < length hs → is_considered hs all j ≡ false) → listed all at hs ≡ []
none_listed all at [] none = refl
none_listed all at (h ∷ hs) none =
    rw (none 0 (omega arith)) (none_listed all (at + 1) hs (λ j lt. none (suc j) (omega arith)))

module _ (all : Bool) (f : ℕ → Bool) where
  -- one step along the places, at a set that is considered or not
  step_none : (at : ℕ) (v : Bool) (rest : List ℕ) → (v ≡ true → f at ≡ false)
      → list_any f rest ≡ false
      → list_any f (if v then at ∷ rest else rest) ≡ false
  step_none at true rest here later = rw (here refl) later
  step_none at false rest here later = later

  step_some : (at : ℕ) (v : Bool) (rest : List ℕ) → list_any f rest ≡ true
      → list_any f (if v then at ∷ rest else rest) ≡ true
  step_some at true rest later = rw later (or_true (f at))
  step_some at false rest later = later

  step_head : (at n : ℕ) (v : Bool) (rest : List ℕ) → (v ≡ true → f at ≡ false)
      → slice_index (filter f rest) 0 ≡ n
      → slice_index (filter f (if v then at ∷ rest else rest)) 0 ≡ n
  step_head at n true rest here later = rw (here refl) later
  step_head at n false rest here later = later

  shifted : (at j : ℕ) → at + 1 + j ≡ at + suc j
  shifted at j = omega arith

  same : (at : ℕ) → at ≡ at + 0
  same at = omega arith

  none_passes : (at : ℕ) (hs : List Bool)
      → ((j : ℕ) → j < length hs → is_considered hs all j ≡ true → f (at + j) ≡ false)
      → list_any f (listed all at hs) ≡ false
  none_passes at [] none = refl
  none_passes at (h ∷ hs) none =
      step_none at (h || all) (listed all (at + 1) hs) (λ e. ap f (same at)
      ∙ none 0 (omega arith) e)
      (none_passes (at + 1) hs (λ j lt ok. ap f (shifted at j) ∙ none (suc j) (omega arith) ok))

  one_passes : (at : ℕ) (hs : List Bool) (b : ℕ) → b < length hs → is_considered hs all b ≡ true
      → f (at + b) ≡ true
      → list_any f (listed all at hs) ≡ true
  one_passes at [] b lt ok is = absurd (omega arith)
  one_passes at (h ∷ hs) zero lt ok is = rw (ok, ap f (same at) ∙ is) refl
  one_passes at (h ∷ hs) (suc b) lt ok is =
      step_some at (h || all) (listed all (at + 1) hs)
      (one_passes (at + 1) hs b (omega arith) ok (ap f (shifted at b) ∙ is))

  head_is : (at : ℕ) (hs : List Bool) (b : ℕ) → b < length hs → is_considered hs all b ≡ true
      → f (at + b) ≡ true
      → ((j : ℕ) → j < b → is_considered hs all j ≡ true → f (at + j) ≡ false)
      → slice_index (filter f (listed all at hs)) 0 ≡ at + b
  head_is at [] b lt ok is none = absurd (omega arith)
  head_is at (h ∷ hs) zero lt ok is none = rw (ok, ap f (same at) ∙ is) (same at)
  head_is at (h ∷ hs) (suc b) lt ok is none =
      step_head at (at + suc b) (h || all) (listed all (at + 1) hs) (λ e. ap f (same at)
      ∙ none 0 (omega arith) e)
      (head_is (at + 1) hs b (omega arith) ok (ap f (shifted at b) ∙ is)
      (λ j before yet. ap f (shifted at j) ∙ none (suc j) (omega arith) yet) ∙ shifted at b)

module _ (client : Option (List (List ℕ × ℕ))) (regions : List (List ℕ)) (healthy : List Bool)
    (s : Bool) (is : s ≡ some_healthy healthy) (i : ℕ) (whole : i ≡ length healthy) where
  -- some set is considered
  pub never_none : 0 < length healthy → ((j : ℕ) → j < i → is_considered healthy (not s) j ≡ false)
      → ⊥
  never_none some none =
      let empty = none_listed (not s) 0 healthy (λ j lt. none j (omega arith)) in
      omega (arith, some_considered healthy some, ap length (sym (noted_is s healthy is) ∙ empty))

  -- the set that comes first is the chosen one
  pub first_is_chosen : (first : First) → ComesFirst client regions healthy (not s) i first
      → first.set ≡ chosen regions healthy client
  first_is_chosen first comes =
      let head =
      head_is (not s) in_front 0 healthy first.set (omega (arith, comes.within))
      comes.considered at_first before_first in
      sym (ap (λ l. slice_index (first_of client regions l) 0) (sym (noted_is s healthy is)) ∙ head
      ∙ omega arith) where
        xs : List ℕ
        xs = listed (not s) 0 healthy

        is_sooner : ℕ → ℕ → Bool
        is_sooner set other = is_before client (get_or regions other []) (get_or regions set [])

        in_front : ℕ → Bool
        in_front set = not (list_any (is_sooner set) xs)

        from_zero : (n : ℕ) → 0 + n ≡ n
        from_zero n = omega arith

        at_first : in_front (0 + first.set) ≡ true
        at_first = ap in_front (from_zero first.set)
            ∙ ap not (none_passes (not s) (is_sooner first.set) 0 healthy
            (λ j lt ok. ap (is_sooner first.set) (from_zero j) ∙ comes.least j (omega arith) ok))

        before_first : (j : ℕ) → j < first.set → is_considered healthy (not s) j ≡ true
            → in_front (0 + j) ≡ false
        before_first j lt ok = ap in_front (from_zero j)
            ∙ ap not (one_passes (not s) (is_sooner j) 0 healthy first.set
            (omega (arith, comes.within)) comes.considered (ap (is_sooner j) (from_zero first.set)
            ∙ comes.sooner j lt ok))
