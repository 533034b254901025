-- Where the checks of numbers stand.
use Rattle.std.proofs.Common.{◌≡◌, ◌≢◌, ◌<◌, ℕ, zero, suc, List, [], ◌∷◌, arith, refl, ap, sym, ◌∙◌, inl, inr, Some, None, Option}
use Rattle.std.specs.Prelude.{slice_get}
use Rattle.std.specs.List.{AllByRecursion}
use Rattle.std.proofs.lemmas.Bool.{cases_eq, eq-eqb, ne_eqb}
use Rattle.check_model.specs.Checks.{IdsRise, check_with}
use Rattle.check_model.specs.declared.checks.Check.{Check}
use Rattle.health_planning.specs.Wired.{IsPlace, StandApart, StandsAt, ids_of, place_of}

some_same : {X : Type 0} {x y : X} → Some x ≡ Some y → x ≡ y
some_same e = cc

-- the first place is the one that is told
pub placed_at : (ids : List ℕ) (id place : ℕ)
    → ((k : ℕ) → k < place → slice_get ids k ≡ Some id → ⊥)
    → slice_get ids place ≡ Some id → place_of ids id ≡ place
placed_at [] id place none e = let no : ⊥ = cc in absurd no
placed_at (x ∷ ids) id zero none e = rw (eq-eqb id x (sym (some_same e))) refl
placed_at (x ∷ ids) id (suc place) none e =
    rw (ne_eqb id x (λ same. none 0 (omega arith) (ap Some (sym same))))
    (ap suc (placed_at ids id place (λ k h is. none (suc k) (omega arith) is) e))

pub stands_at : (ids : List ℕ) (id : ℕ) (at : Option ℕ) → IsPlace ids id at → StandsAt ids id at
stands_at ids id None none = none
stands_at ids id (Some place) is = is.0

-- a number that stands somewhere stands at its first place, which is the only one among some that
-- differ
pub first_there : (ids : List ℕ) (place id : ℕ) → slice_get ids place ≡ Some id
    → slice_get ids (place_of ids id) ≡ Some id
first_there [] place id e = let no : ⊥ = cc in absurd no
first_there (x ∷ ids) zero id e = rw (eq-eqb id x (sym (some_same e))) e
first_there (x ∷ ids) (suc place) id e = elim (cases_eq id x) [
  | inl same ↦ rw (eq-eqb id x same) (ap Some (sym same))
  | inr apart ↦ rw (ne_eqb id x apart) (first_there ids place id e)
]

pub only_place : (ids : List ℕ) → StandApart ids → (place id : ℕ) → slice_get ids place ≡ Some id
    → place_of ids id ≡ place
only_place ids apart place id at = apart (place_of ids id) place id (first_there ids place id at) at

-- a number that stands somewhere is that of a check
pub held_there : (list : List (ℕ × Check)) (place id : ℕ)
    → slice_get (ids_of list) place ≡ Some id
    → (check : Check) × (slice_get list place ≡ Some (id, check))
held_there [] place id e = let no : ⊥ = cc in absurd no
held_there (held ∷ list) zero id e = (held.1, ap (λ (n : ℕ). Some (n, held.1)) (some_same e))
held_there (held ∷ list) (suc place) id e = held_there list place id e

-- the check at the place of its number is the one that is found
past_first : (held : ℕ × Check) (list : List (ℕ × Check)) (id : ℕ) → id ≢ held.0
    → check_with (held ∷ list) id ≡ check_with list id
past_first held list id apart = rw (ne_eqb id held.0 apart) refl

pub check_there : (list : List (ℕ × Check)) (id place : ℕ) → slice_get (ids_of list) place ≡ Some id
    → place_of (ids_of list) id ≡ place
    → (check : Check) × (slice_get list place ≡ Some (id, check)) × (check_with list id ≡ Some check)
check_there [] id place e first = let no : ⊥ = cc in absurd no
check_there (held ∷ list) id zero e first =
    let same = some_same e in
    (held.1, rw (sym same) refl, rw (eq-eqb id held.0 (sym same)) refl)
check_there (held ∷ list) id (suc place) e first = elim (cases_eq id held.0) [
  | inl same ↦ let none : 0 ≡ suc place = rw (eq-eqb id held.0 same) at first in absurd (omega arith)
  | inr apart ↦
      let later : suc (place_of (ids_of list) id) ≡ suc place = rw (ne_eqb id held.0 apart) at first in
      let r = check_there list id place e (omega arith) in
      (r.0, r.1, past_first held list id apart ∙ r.2)
]

-- where a number stands that a check has
pub id_there : (list : List (ℕ × Check)) (place id : ℕ) (check : Check)
    → slice_get list place ≡ Some (id, check) → slice_get (ids_of list) place ≡ Some id
id_there [] place id check e = let no : ⊥ = cc in absurd no
id_there (held ∷ list) zero id check e = ap Some (ap (λ (h : ℕ × Check). h.0) (some_same e))
id_there (held ∷ list) (suc place) id check e = id_there list place id check e

-- a number that no place has is of no check
pub no_check : (list : List (ℕ × Check)) (id : ℕ)
    → ((place : ℕ) → slice_get (ids_of list) place ≡ Some id → ⊥) → check_with list id ≡ None
no_check [] id none = refl
no_check (held ∷ list) id none =
    rw (ne_eqb id held.0 (λ same. none 0 (ap Some (sym same))))
    (no_check list id (λ place is. none (suc place) is))

above : (list : List (ℕ × Check)) (n : ℕ) (place id : ℕ) (check : Check)
    → AllByRecursion (λ other. n < other.0) list → slice_get list place ≡ Some (id, check) → n < id
above [] n place id check all e = let no : ⊥ = cc in absurd no
above (held ∷ list) n zero id check all e =
    let same = ap (λ (h : ℕ × Check). h.0) (some_same e) in rw (sym same) all.0
above (held ∷ list) n (suc place) id check all e = above list n place id check all.1 e

-- the check that stands at a place is the one of its number
pub id_at : (list : List (ℕ × Check)) (place id : ℕ) (check : Check) → IdsRise list
    → slice_get list place ≡ Some (id, check) → check_with list id ≡ Some check
id_at [] place id check rise e = let no : ⊥ = cc in absurd no
id_at (held ∷ list) zero id check rise e =
    let same = some_same e in
    rw (eq-eqb id held.0 (sym (ap (λ (h : ℕ × Check). h.0) same)))
    (ap (λ (h : ℕ × Check). Some h.1) same)
id_at (held ∷ list) (suc place) id check rise e =
    let b = above list held.0 place id check rise.0 e in
    past_first held list id (λ same. omega arith) ∙ id_at list place id check rise.1 e

-- one number stands at one place
pub one_place : (list : List (ℕ × Check)) (p q id : ℕ) (c d : Check) → IdsRise list
    → slice_get list p ≡ Some (id, c) → slice_get list q ≡ Some (id, d) → p ≡ q
one_place [] p q id c d rise e f = let no : ⊥ = cc in absurd no
one_place (held ∷ list) zero zero id c d rise e f = refl
one_place (held ∷ list) zero (suc q) id c d rise e f =
    let same = ap (λ (h : ℕ × Check). h.0) (some_same e) in
    let b = above list held.0 q id d rise.0 f in absurd (omega arith)
one_place (held ∷ list) (suc p) zero id c d rise e f =
    let same = ap (λ (h : ℕ × Check). h.0) (some_same f) in
    let b = above list held.0 p id c rise.0 e in absurd (omega arith)
one_place (held ∷ list) (suc p) (suc q) id c d rise e f =
    ap suc (one_place list p q id c d rise.1 e f)

-- the numbers of checks differ
pub ids_apart : (list : List (ℕ × Check)) → IdsRise list → StandApart (ids_of list)
ids_apart list rise k n id at_k at_n =
    let one = held_there list k id at_k in
    let other = held_there list n id at_n in
    one_place list k n id one.0 other.0 rise one.1 other.1

-- what holds of all checks holds of one
pub of_all : (P : ℕ × Check → Type 0) (list : List (ℕ × Check)) (place : ℕ) (held : ℕ × Check)
    → AllByRecursion P list → slice_get list place ≡ Some held → P held
of_all P [] place held all e = let no : ⊥ = cc in absurd no
of_all P (first ∷ list) zero held all e = rw (sym (some_same e)) all.0
of_all P (first ∷ list) (suc place) held all e = of_all P list place held all.1 e

-- where the check of a number stands
pub found : (list : List (ℕ × Check)) (id : ℕ) (check : Check) → check_with list id ≡ Some check
    → slice_get list (place_of (ids_of list) id) ≡ Some (id, check)
found [] id check e = let no : ⊥ = cc in absurd no
found (held ∷ list) id check e = elim (cases_eq id held.0) [
  | inl same ↦ rw (eq-eqb id held.0 same) (let its : held.1 ≡ check = some_same (rw (eq-eqb id held.0 same) at e) in ap Some
      (pair_is held.0 id held.1 check (sym same) its))
  | inr apart ↦ rw (ne_eqb id held.0 apart) (found list id check (rw (ne_eqb id held.0 apart) at e))
]
  where
    pair_is : (i j : ℕ) (c d : Check) → i ≡ j → c ≡ d → ◌≡◌ {A = ℕ × Check} (i, c) (j, d)
    pair_is i j c d a b = cc
