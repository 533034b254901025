-- What is counted of a check, and at how many slots it is told.
use Rattle.std.proofs.Common.{◌≡◌, ◌≢◌, ◌<◌, ◌≤◌, ◌+◌, ℕ, zero, suc, Bool, true, false, cond, List, [], ◌∷◌, ◌++◌, length, take, get_or, set, refl, inl, inr, ◌-◌, ap, sym, ◌∙◌, arith, Some}
use Rattle.std.specs.Prelude.{◌==◌, ◌⊎◌, slice_get}
use Rattle.std.specs.List.{swap_remove}
use Rattle.std.proofs.lemmas.Bool.{cases_eq, cases_lt, eq-eqb, ne_eqb}
use Rattle.std.proofs.lemmas.List.{get_or_append_left, get_or-append_right, get_or_past}
use Rattle.std.proofs.lemmas.List.Sums.{get_or-le-sum_by, sum_by-cons, sum_by-set, sum_by-swap_remove, sum_by_more, sum_by_push}
use Rattle.std.proofs.lemmas.Option.{get_or_from_slice_get, slice_get_within}
use Rattle.check_commands.specs.Counts.{IsTold, counted, one_if, times, told_at}
use Rattle.check_commands.specs.declared.counting.CheckUse.{CheckUse}

-- ---- what is counted

abbrev part : ℕ → CheckUse → ℕ
part check one = cond (one.check == check) one.count 0

one_more : (b : Bool) (n : ℕ) → cond b (n + 1) 0 ≡ cond b n 0 + one_if b
one_more true n = refl
one_more false n = refl

pub read_at : (uses : List CheckUse) (place : ℕ) (one read : CheckUse)
    → slice_get uses place ≡ Some one → read ≡ get_or uses place read → read ≡ one
read_at uses place one read at is = is ∙ get_or_from_slice_get uses place one read at

pub with_count : (uses : List CheckUse) (place check n m : ℕ) → n ≡ m → (other : ℕ)
    → counted other (set uses place (record { check = check; count = n }))
    ≡ counted other (set uses place (record { check = check; count = m }))
with_count uses place check n m same other =
    ap (λ (k : ℕ). counted other (set uses place (record { check = check; count = k }))) same

module _ (uses : List CheckUse) (place check : ℕ) (one : CheckUse)
    (at : slice_get uses place ≡ Some one) (is : one.check ≡ check) where
  abbrev its : ℕ → ℕ
  its other = cond (check == other) one.count 0

  its_part : (other : ℕ) → part other (get_or uses place one) ≡ its other
  its_part other =
      ap (part other) (get_or_from_slice_get uses place one one at)
      ∙ ap (λ (n : ℕ). cond (n == other) one.count 0) is

  within : place < length uses
  within = slice_get_within uses place one at

  pub raised : (other : ℕ)
      → counted other (set uses place (record { check = check; count = one.count + 1 }))
      ≡ counted other uses + one_if (check == other)
  raised other =
      let new : CheckUse = record { check = check; count = one.count + 1 } in
      let sums = sum_by-set (part other) uses place new one within in
      let was = its_part other in
      let more = one_more (check == other) one.count in
      omega (arith, sums, was, more)

  pub lowered : (n : ℕ) → one.count ≡ n + 1 → (other : ℕ)
      → counted other (set uses place (record { check = check; count = n })) + one_if (check == other)
      ≡ counted other uses
  lowered n size other =
      let new : CheckUse = record { check = check; count = n } in
      let sums = sum_by-set (part other) uses place new one within in
      let was = its_part other ∙ ap (λ (k : ℕ). cond (check == other) k 0) size in
      let more = one_more (check == other) n in
      omega (arith, sums, was, more)

  pub left : one.count ≡ 1 → (other : ℕ)
      → counted other (swap_remove uses place one) + one_if (check == other) ≡ counted other uses
  left size other =
      let sums = sum_by-swap_remove (part other) uses place one within in
      let was = its_part other ∙ ap (λ (k : ℕ). cond (check == other) k 0) size in
      let more = one_more (check == other) 0 in
      omega (arith, sums, was, more)

  pub some_counted : 0 < one.count → 0 < counted check uses
  some_counted some =
      let least = get_or-le-sum_by (part check) uses place one within in
      let was = its_part check ∙ ap (λ (b : Bool). cond b one.count 0) (eq-eqb check check refl) in
      omega (arith, least, was, some)

-- one that isn't of the check, or of no sets, counts nothing
no_part : (check : ℕ) (one : CheckUse) → (one.check ≡ check → 0 < one.count → ⊥)
    → part check one ≡ 0
no_part check one none = elim (cases_eq one.check check) [
  | inl same ↦
      ap (λ (b : Bool). cond b one.count 0) (eq-eqb one.check check same)
      ∙ by (cases_lt 0 one.count) same
  | inr apart ↦ ap (λ (b : Bool). cond b one.count 0) (ne_eqb one.check check apart)
]
  where
    by : (0 < one.count) ⊎ (one.count ≤ 0) → one.check ≡ check → one.count ≡ 0
    by (inl some) same = absurd (none same some)
    by (inr le) same = omega (arith, le)

pub none_yet : (check : ℕ) (uses : List CheckUse) (i : ℕ) (one : CheckUse) → i < length uses
    → one ≡ get_or uses i one → (one.check ≡ check → 0 < one.count → ⊥)
    → counted check (take i uses) ≡ 0 → counted check (take (i + 1) uses) ≡ 0
none_yet check uses i one within read none before =
    let sums = sum_by_more (part check) uses i one within in
    let its = ap (part check) (sym read) ∙ no_part check one none in
    omega (arith, sums, its, before)

-- ---- what is told

-- a slot more that tells nothing
pub told_more : (list : List ℕ) (slot : ℕ) → told_at (list ++ 0 ∷ []) slot ≡ told_at list slot
told_more list slot = elim (cases_lt slot (length list)) [
  | inl inside ↦ get_or_append_left list (0 ∷ []) 0 slot inside
  | inr past ↦
      get_or-append_right list (0 ∷ []) (length list) slot 0 refl past
      ∙ (nothing (slot - length list) ∙ sym (get_or_past list slot 0 past))
]
  where
    nothing : (n : ℕ) → told_at (0 ∷ []) n ≡ 0
    nothing zero = refl
    nothing (suc n) = refl

pub times_more : (list : List ℕ) (check : ℕ) → check ≢ 0
    → times check (list ++ 0 ∷ []) ≡ times check list
times_more list check some =
    let sums = sum_by_push (λ (n : ℕ). cond (n == check) 1 0) list 0 in
    let none = ap one_if (ne_eqb 0 check (λ e. some (sym e))) in
    omega (arith, sums, none)

-- a number is told wherever it is counted
pub told_times : (list : List ℕ) (slot check : ℕ) → check ≢ 0 → told_at list slot ≡ check
    → 0 < times check list
told_times list slot check some is = elim (cases_lt slot (length list)) [
  | inl inside ↦
      let least = get_or-le-sum_by (λ (n : ℕ). cond (n == check) 1 0) list slot 0 inside in
      let one = ap one_if (eq-eqb (told_at list slot) check is) in
      omega (arith, least, one)
  | inr past ↦ absurd (some (sym is ∙ get_or_past list slot 0 past))
]

pub times_told : (check : ℕ) (list : List ℕ) → 0 < times check list → IsTold list check
times_told check [] some = absurd (omega (arith, some))
times_told check (n ∷ list) some = elim (cases_eq n check) [
  | inl same ↦ (0, same)
  | inr apart ↦
      let sums = sum_by-cons (λ (m : ℕ). cond (m == check) 1 0) n list in
      let none = ap one_if (ne_eqb n check apart) in
      let rest = times_told check list (omega (arith, some, sums, none)) in
      (suc rest.0, rest.1)
]

-- another number at a slot
pub times_set : (list : List ℕ) (slot check other : ℕ) → slot < length list
    → times other (set list slot check) + one_if (told_at list slot == other)
    ≡ times other list + one_if (check == other)
times_set list slot check other within =
    sum_by-set (λ (n : ℕ). cond (n == other) 1 0) list slot check 0 within
