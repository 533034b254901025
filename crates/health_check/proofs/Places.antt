-- Where checks stand whose numbers rise.
use Rattle.std.proofs.Common.{◌≡◌, ◌≢◌, ℕ, zero, suc, ◌+◌, ◌<◌, ◌≤◌, Bool, true, false, cond, List, [], ◌∷◌, ◌++◌, length, get_or, set, take, drop, map, Option, None, Some, ap, ◌∙◌, sym, refl, arith, inl, inr}
use Rattle.std.specs.Prelude.{not, nat_eq, slice_get}
use Rattle.std.specs.List.{AllByRecursion}
use Rattle.std.specs.List.Sorted.{IsPartitionedBy, IsPartitionPoint}
use Rattle.std.proofs.lemmas.Bool.{cases_eq, cases_lt, eq-eqb, ne_eqb, false≢true, ltb-true, ltb-false, leb-true, leb-false, lt-ltb, le-leb}
use Rattle.std.proofs.lemmas.List.{get_or_default}
use Rattle.std.proofs.lemmas.List.Elements.{Contains-get_or}
use Rattle.std.proofs.lemmas.Option.{get_or_from_slice_get, slice_get_read, slice_get_within}
use Rattle.check_model.specs.declared.checks.Check.{Check}
use Rattle.check_model.specs.Checks.{IdsRise, IsId, NextIdOrNone, check_with}
use Rattle.check_model.specs.Commands.{Given, updated_at, updated_check, without}
use Rattle.check_model.proofs.Members.{all_at}
use Rattle.check_model.proofs.Told.{one_of_id}
use Rattle.check_model.proofs.Walks.{stands_there}
use Rattle.health_check.specs.Places.{PlaceOrNone, comes_before, comes_not_behind}

abbrev pub Held : Type 0
Held = ℕ × Check

abbrev pub pair : ℕ → Check → Held
pair id check = (id, check)

pub rises : (list : List Held) → IdsRise list → (i j : ℕ) (d : Held) → i < j → j < length list
    → (get_or list i d).0 < (get_or list j d).0
rises [] rise i j d lt within = absurd (omega (arith, within))
rises (held ∷ list) rise i zero d lt within = absurd (omega (arith, lt))
rises (held ∷ list) rise zero (suc j) d lt within =
    all_at (λ other. held.0 < other.0) list (get_or list j d) rise.0
    (Contains-get_or list j d (omega (arith, within)))
rises (held ∷ list) rise (suc i) (suc j) d lt within =
    rises list rise.1 i j d (omega (arith, lt)) (omega (arith, within))

stays : (list : List Held) → IdsRise list → (i j : ℕ) (d : Held) → i ≤ j → j < length list
    → (get_or list i d).0 ≤ (get_or list j d).0
stays list rise i j d le within = elim (cases_eq i j) [
  | inl e ↦ (let same : (get_or list i d).0 ≡ (get_or list j d).0 =
      ap (λ (n : ℕ). (get_or list n d).0) e in omega (arith, same))
  | inr ne ↦ (let lt = rises list rise i j d (omega (arith, le, ne)) within in omega (arith, lt))
]

module _ (list : List Held) (rise : IdsRise list) (id : ℕ) where
  pub parted_before : IsPartitionedBy (comes_before id) list
  parted_before i j d le within e =
      let low = stays list rise i j d le within in
      let lt = ltb-true (get_or list j d).0 id e in
      lt-ltb (get_or list i d).0 id (omega (arith, low, lt))

  pub parted_up_to : IsPartitionedBy (comes_not_behind id) list
  parted_up_to i j d le within e =
      let low = stays list rise i j d le within in
      let most = leb-true (get_or list j d).0 id e in
      le-leb (get_or list i d).0 id (omega (arith, low, most))

none_by : (b : Bool) (held : Held) (rest : Option Check) → b ≡ false → rest ≡ None
    → cond b (Some held.1) rest ≡ None
none_by true held rest e none = absurd (false≢true (sym e))
none_by false held rest e none = none

not_there : (list : List Held) (id : ℕ)
    → ((k : ℕ) (d : Held) → k < length list → (get_or list k d).0 ≢ id)
    → check_with list id ≡ None
not_there [] id never = refl
not_there (held ∷ list) id never =
    none_by (nat_eq id held.0) held (check_with list id)
    (ne_eqb id held.0 (λ e. never zero held (omega arith) (sym e)))
    (not_there list id (λ k d lt. never (suc k) d (omega (arith, lt))))

module _ (list : List Held) (rise : IdsRise list) (id n : ℕ)
    (split : IsPartitionPoint (λ held. comes_before id held ≡ true)
    (λ held. comes_before id held ≡ false) list n) where
  pub absent : ((d : Held) → n < length list → (get_or list n d).0 ≢ id) → check_with list id ≡ None
  absent other = not_there list id never
    where
      never : (k : ℕ) (d : Held) → k < length list → (get_or list k d).0 ≢ id
      never k d lt e = elim (cases_lt k n) [
        | inl low ↦ (let b = ltb-true (get_or list k d).0 id (split.0 k d (omega arith) low) in
            omega (arith, b, e))
        | inr high ↦ elim (cases_eq n k) [
          | inl same ↦ other d (omega (arith, same, lt))
              (ap (λ (m : ℕ). (get_or list m d).0) same ∙ e)
          | inr ne ↦ (let up = rises list rise n k d (omega (arith, high, ne)) lt in
              let at = ltb-false (get_or list n d).0 id (split.1 n d (omega arith)
              (omega (arith, high, lt))) in
              omega (arith, up, at, e))
        ]
      ]

pub found_there : (list : List Held) → IdsRise list → (place id : ℕ) (held : Held)
    → place < length list → held ≡ get_or list place held → held.0 ≡ id
    → PlaceOrNone list id (Some place)
found_there list rise place id held lt is same =
    let at : check_with list held.0 ≡ Some held.1 =
    one_of_id list held rise (place, lt, sym is) in (
      held.1,
      slice_get_read list (length list) place held refl lt is ∙ ap (λ n. Some (n, held.1)) same,
      ap (check_with list) (sym same) ∙ at,
    )

-- ---- the next number

is_id : (list : List Held) → IdsRise list → (k : ℕ) (held : Held) → k < length list
    → held ≡ get_or list k held → IsId list held.0
is_id list rise k held lt is = (held.1, one_of_id list held rise (k, lt, sym is))

module _ (list : List Held) (rise : IdsRise list) (id n : ℕ)
    (split : IsPartitionPoint (λ held. comes_not_behind id held ≡ true)
    (λ held. comes_not_behind id held ≡ false) list n) where
  not_above : (other : ℕ) → IsId list other → (k : ℕ) × (k < length list) × (d : Held)
      × ((get_or list k d).0 ≡ other)
  not_above other (check, at) =
      let m = stands_there list other check at in
      (m.0, m.1, (other, check), ap (λ (h : Held). h.0) m.2)

  pub no_next : length list ≤ n → NextIdOrNone list id None
  no_next most other is =
      let k = not_above other is in
      let lt = k.1 in
      let low = leb-true (get_or list k.0 k.2).0 id
      (split.0 k.0 k.2 (omega arith) (omega (arith, most, lt))) in
      let e = k.3 in
      omega (arith, low, e)

  pub next_there : (held : Held) → n < length list → held ≡ get_or list n held
      → NextIdOrNone list id (Some held.0)
  next_there held lt is = record {
    there = is_id list rise n held lt is;
    above = (let b = leb-false (get_or list n held).0 id (split.1 n held (omega arith) lt) in
        let e : held.0 ≡ (get_or list n held).0 = ap (λ (h : Held). h.0) is in
        omega (arith, b, e));
    least = least;
  }
    where
      least : (other : ℕ) → IsId list other → id < other → held.0 ≤ other
      least other its over =
          let k = not_above other its in
          let within = k.1 in
          let at = k.3 in
          elim (cases_lt k.0 n) [
            | inl low ↦ (let b = leb-true (get_or list k.0 k.2).0 id
                (split.0 k.0 k.2 (omega arith) low) in absurd (omega (arith, b, at, over)))
            | inr high ↦ (let up = stays list rise n k.0 k.2 high within in
                let e : held.0 ≡ (get_or list n k.2).0 =
                ap (λ (h : Held). h.0) (is ∙ get_or_default list n held k.2 lt) in
                omega (arith, up, e, at))
          ]

-- ---- one check changed, or taken away

module _ (id : ℕ) (given : Given) where
  apart_by : (b : Bool) (held : Held) → b ≡ false
      → pair held.0 (cond b (updated_check given held.1) held.1) ≡ held
  apart_by true held e = absurd (false≢true (sym e))
  apart_by false held e = refl

  its_by : (b : Bool) (held : Held) → b ≡ true
      → pair held.0 (updated_check given held.1)
      ≡ pair held.0 (cond b (updated_check given held.1) held.1)
  its_by true held e = refl
  its_by false held e = absurd (false≢true e)

  apart : (held : Held) → held.0 ≢ id → updated_at id given held ≡ held
  apart held ne = apart_by (nat_eq held.0 id) held (ne_eqb held.0 id ne)

  pub all_apart : (list : List Held) → AllByRecursion (λ other. other.0 ≢ id) list
      → map (updated_at id given) list ≡ list
  all_apart [] all = refl
  all_apart (held ∷ list) all =
      ap (λ (h : Held). h ∷ map (updated_at id given) list) (apart held all.0)
      ∙ ap (λ (l : List Held). held ∷ l) (all_apart list all.1)

above_apart : (id : ℕ) (list : List Held) (first : ℕ) → first ≡ id
    → AllByRecursion (λ (other : Held). first < other.0) list
    → AllByRecursion (λ (other : Held). other.0 ≢ id) list
above_apart id [] first same all = tt
above_apart id (held ∷ list) first same all =
    ((λ e. let lt = all.0 in omega (arith, lt, e, same)), above_apart id list first same all.1)

pub changed_there : (id : ℕ) (given : Given) (list : List Held) → IdsRise list → (place : ℕ)
    (held : Held) → place < length list → held ≡ get_or list place held → held.0 ≡ id
    → set list place (held.0, updated_check given held.1) ≡ map (updated_at id given) list
changed_there id given [] rise place held lt is same = absurd (omega (arith, lt))
changed_there id given (first ∷ list) rise zero held lt is same =
    ap (λ (h : Held). (h.0, updated_check given h.1) ∷ list) is
    ∙ ap (λ (h : Held). h ∷ list) (its_by id given (nat_eq first.0 id) first
    (eq-eqb first.0 id (ap (λ (h : Held). h.0) (sym is) ∙ same)))
    ∙ ap (λ (l : List Held). updated_at id given first ∷ l)
    (sym (all_apart id given list (above_apart id list first.0
    (ap (λ (h : Held). h.0) (sym is) ∙ same) rise.0)))
changed_there id given (first ∷ list) rise (suc place) held lt is same =
    let low : first.0 < held.0 =
    all_at (λ other. first.0 < other.0) list held rise.0 (place, omega (arith, lt), sym is) in
    ap (λ (l : List Held). first ∷ l)
    (changed_there id given list rise.1 place held (omega (arith, lt)) is same)
    ∙ ap (λ (h : Held). h ∷ map (updated_at id given) list)
    (sym (apart id given first (λ e. omega (arith, low, e, same))))

kept_by : (b : Bool) (held : Held) (rest : List Held) → b ≡ false
    → held ∷ rest ≡ cond (not b) (held ∷ rest) rest
kept_by true held rest e = absurd (false≢true (sym e))
kept_by false held rest e = refl

gone_by : (b : Bool) (held : Held) (rest : List Held) → b ≡ true
    → rest ≡ cond (not b) (held ∷ rest) rest
gone_by true held rest e = refl
gone_by false held rest e = absurd (false≢true e)

all_stay : (id : ℕ) (list : List Held) → AllByRecursion (λ (other : Held). other.0 ≢ id) list
    → list ≡ without id list
all_stay id [] all = refl
all_stay id (held ∷ list) all =
    ap (λ (l : List Held). held ∷ l) (all_stay id list all.1)
    ∙ kept_by (nat_eq held.0 id) held (without id list) (ne_eqb held.0 id all.0)

taken_by : (id : ℕ) (list : List Held) → IdsRise list → (place : ℕ)
    (held : Held) → place < length list → held ≡ get_or list place held → held.0 ≡ id
    → take place list ++ drop (suc place) list ≡ without id list
taken_by id [] rise place held lt is same = absurd (omega (arith, lt))
taken_by id (first ∷ list) rise zero held lt is same =
    let its : first.0 ≡ id = ap (λ (h : Held). h.0) (sym is) ∙ same in
    all_stay id list (above_apart id list first.0 its rise.0)
    ∙ gone_by (nat_eq first.0 id) first (without id list) (eq-eqb first.0 id its)
taken_by id (first ∷ list) rise (suc place) held lt is same =
    let low : first.0 < held.0 =
    all_at (λ other. first.0 < other.0) list held rise.0 (place, omega (arith, lt), sym is) in
    ap (λ (l : List Held). first ∷ l)
    (taken_by id list rise.1 place held (omega (arith, lt)) is same)
    ∙ kept_by (nat_eq first.0 id) first (without id list)
    (ne_eqb first.0 id (λ e. omega (arith, low, e, same)))

pub taken_away : (id : ℕ) (list : List Held) → IdsRise list → (place : ℕ)
    (held : Held) → place < length list → held ≡ get_or list place held → held.0 ≡ id
    → take place list ++ drop (place + 1) list ≡ without id list
taken_away id list rise place held lt is same =
    let next : place + 1 ≡ suc place = omega arith in
    ap (λ (n : ℕ). take place list ++ drop n list) next
    ∙ taken_by id list rise place held lt is same

-- the same of the place that is answered
module _ (id : ℕ) (list : List Held) (rise : IdsRise list) (place : ℕ) (check : Check)
    (at : slice_get list place ≡ Some (id, check)) where
  within : place < length list
  within = slice_get_within list place (id, check) at

  its : (d : Held) → get_or list place d ≡ (id, check)
  its d = get_or_from_slice_get list place (id, check) d at

  pub changed_at : (given : Given) (now : Held) (next : Check) → now ≡ get_or list place now
      → next ≡ updated_check given now.1
      → set list place (now.0, next) ≡ map (updated_at id given) list
  changed_at given now next is made =
      ap (λ (c : Check). set list place (now.0, c)) made
      ∙ changed_there id given list rise place now within is
      (ap (λ (h : Held). h.0) (is ∙ its now))

  pub taken_at : take place list ++ drop (place + 1) list ≡ without id list
  taken_at = taken_away id list rise place (id, check) within (sym (its (id, check))) refl
