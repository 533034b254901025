-- Lists of marks.
use Rattle.std.proofs.Common.{◌≡◌, ◌<◌, ◌≤◌, ◌+◌, ℕ, suc, Bool, true, false, List, [], ◌∷◌, length, get_or, set, length-set, get_or-set_same, get_or-set_other, arith, refl, ap, sym, ◌∙◌, inl, inr}
use Rattle.std.specs.Prelude.{if◌then◌else◌}
use Rattle.std.specs.List.{Contains}
use Rattle.std.proofs.lemmas.Bool.{cases_eq, cases_lt, false≢true}
use Rattle.std.proofs.lemmas.List.{set-get_or, set_past, get_or_past}
use Rattle.std.proofs.lemmas.List.Sums.{sum_by-set, sum_by-cons, count_by-le-length}
use Rattle.std.proofs.lemmas.Grind.{get_or_default_zero}
use Rattle.health_valves.proofs.Members.{in_none, in_cases}
use Rattle.health_valves.specs.Valves.{value_in}
use Rattle.health_valves.specs.Listed.{trues}

abbrev one : Bool → ℕ
one b = if b then 1 else 0

pub one_more : (marks : List Bool) (i : ℕ) → i < length marks → value_in marks i ≡ false → trues (set marks i true) ≡ trues marks + 1
one_more marks i b e = let s = rw e at (sum_by-set (λ b. if b then 1 else 0) marks i true false b) in omega arith

pub fewer : (marks : List Bool) (i : ℕ) → i < length marks → value_in marks i ≡ false → trues marks < length marks
fewer marks i b e = let s = one_more marks i b e in let m = count_by-le-length (λ b. b) (set marks i true) in let l = length-set marks i true in omega arith

-- marking a valve that is marked changes nothing
pub set_again : (marks : List Bool) (i : ℕ) → value_in marks i ≡ true → set marks i true ≡ marks
set_again marks i e = ap (set marks i) (sym e) ∙ set-get_or marks i false

pub mark_here : (marks : List Bool) (i : ℕ) → i < length marks → value_in (set marks i true) i ≡ true
mark_here marks i b = get_or-set_same marks i true false b

pub mark_kept : (marks : List Bool) (i y : ℕ) → i < length marks → value_in marks y ≡ true → value_in (set marks i true) y ≡ true
mark_kept marks i y b e = elim (cases_eq y i) [ inl is ↦ rw is (mark_here marks i b) | inr ne ↦ get_or-set_other marks i y true false ne ∙ e ]

-- where an element stands
pub in_place : (y : ℕ) (xs : List ℕ) (w : Contains xs y) → get_or xs w.0 0 ≡ y
in_place y xs w = sym (get_or_default_zero xs w.0 y w.1) ∙ w.2

pub none_marked : (marks : List Bool) → ((y : ℕ) → value_in marks y ≡ true → ⊥) → trues marks ≡ 0
none_marked [] h = refl
none_marked (b ∷ rest) h =
    let r = none_marked rest (λ y e. h (suc y) e) in
    let c = sum_by-cons (λ b. if b then 1 else 0) b rest in
    first b c r (h 0)
  where
    first : (b : Bool) → trues (b ∷ rest) ≡ one b + trues rest → trues rest ≡ 0 → (b ≡ true → ⊥) → trues (b ∷ rest) ≡ 0
    first true c r no_first = absurd (no_first refl)
    first false c r no_first = omega (arith, c, r)

-- the list without its first
unmarked_count : (marks : List Bool) (n : ℕ) → trues marks ≤ trues (set marks n false) + 1
unmarked_count marks n = elim (cases_lt n (length marks)) [
  | inl b ↦ let s = sum_by-set (λ b. if b then 1 else 0) marks n false false b in let m = at_most (get_or marks n false) in omega arith
  | inr past ↦ let e = ap trues (set_past marks n false past) in omega arith
]
  where
    at_most : (b : Bool) → (if b then 1 else 0) ≤ 1
    at_most true = omega arith
    at_most false = omega arith

pub still_marked : (marks : List Bool) (n y : ℕ) → value_in (set marks n false) y ≡ true → (y ≡ n → ⊥) × (value_in marks y ≡ true)
still_marked marks n y e = elim (cases_eq y n) [
  | inl is ↦ absurd (false≢true (sym (cleared marks n) ∙ ap (value_in (set marks n false)) (sym is) ∙ e))
  | inr ne ↦ (ne, sym (get_or-set_other marks n y false false ne) ∙ e)
]
  where
    cleared : (marks : List Bool) (n : ℕ) → value_in (set marks n false) n ≡ false
    cleared marks n = elim (cases_lt n (length marks)) [
      | inl b ↦ get_or-set_same marks n false false b
      | inr past ↦ get_or_past (set marks n false) n false (let l = length-set marks n false in omega arith)
    ]

-- no more are marked than a list has that holds each of them
pub trues_few : (nodes : List ℕ) (marks : List Bool) → ((y : ℕ) → value_in marks y ≡ true → Contains nodes y) → trues marks ≤ length nodes
trues_few [] marks h = let e = none_marked marks (λ y m. in_none y (h y m)) in omega arith
trues_few (n ∷ rest) marks h =
    let r = trues_few rest (set marks n false) (λ y m. let s = still_marked marks n y m in elim (in_cases n y rest (h y s.1)) [ inl e ↦ absurd (s.0 (sym e)) | inr i ↦ i ]) in
    let u = unmarked_count marks n in
    omega arith

pub marked_within : (marks : List Bool) (y : ℕ) → value_in marks y ≡ true → y < length marks
marked_within marks y e = elim (cases_lt y (length marks)) [
  | inl l ↦ l
  | inr past ↦ absurd (false≢true (sym (get_or_past marks y false past) ∙ e))
]

-- at first as many are listed as are marked: none
pub none_many : (order : List ℕ) (marks : List Bool) → order ≡ [] → ((y : ℕ) → value_in marks y ≡ false) → length order ≡ trues marks
none_many order marks e un = ap length e ∙ sym (none_marked marks (λ y m. false≢true (sym (un y) ∙ m)))
