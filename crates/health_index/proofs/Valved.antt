-- Valves of checks, where one comes or goes.
use Rattle.std.proofs.Common.{◌≡◌, ◌≢◌, ◌≤◌, ◌<◌, ◌+◌, ℕ, zero, suc, List, [], ◌∷◌, ◌++◌, length, length-append, arith, refl, ap, sym, ◌∙◌, inl, inr, Some}
use Rattle.std.specs.List.{remove}
use Rattle.std.specs.Prelude.{◌⊎◌, if◌then◌else◌, nat_lt, slice_get}
use Rattle.std.proofs.lemmas.Bool.{cases_lt, le-ltb, lt-ltb}
use Rattle.std.proofs.lemmas.List.Edits.{length-remove}
use Rattle.health_planning.proofs.Lists.{in_more}
use Rattle.health_planning.specs.Wired.{HaveValves, IsSpare}

-- ---- one more

module _ (many : ℕ) (numbers : List ℕ) (valve : ℕ) (valves : HaveValves many numbers)
    (spare : IsSpare numbers valve) where
  pub more_valves : HaveValves (many + 1) (numbers ++ valve ∷ [])
  more_valves = record {
    as_many = length-append numbers (valve ∷ []) ∙ ap (λ (n : ℕ). n + 1) valves.as_many;
    apart = λ k n id at_k at_n. elim (in_more numbers valve id k at_k) [
      | inl one ↦ elim (in_more numbers valve id n at_n) [
        | inl other ↦ valves.apart k n id one other
        | inr last ↦ absurd (spare.1 k (one ∙ ap Some last.1))
      ]
      | inr last ↦ elim (in_more numbers valve id n at_n) [
        | inl other ↦ absurd (spare.1 n (other ∙ ap Some last.1))
        | inr last_too ↦ (let a = last.0 in let b = last_too.0 in omega arith)
      ]
    ];
    early = λ place found at. elim (in_more numbers valve found place at) [
      | inl old ↦ valves.early place found old
      | inr last ↦ (let same = last.1 in let early = spare.0 in omega arith)
    ];
  }

-- ---- one fewer

pub removed_before : {X : Type 0} (xs : List X) (gone n : ℕ) → n < gone → slice_get (remove xs gone) n ≡ slice_get xs n
removed_before [] zero n early = refl
removed_before [] (suc gone) n early = refl
removed_before (x ∷ xs) zero n early = absurd (omega arith)
removed_before (x ∷ xs) (suc gone) zero early = refl
removed_before (x ∷ xs) (suc gone) (suc n) early = removed_before xs gone n (omega arith)

removed_suc : {X : Type 0} (xs : List X) (gone n : ℕ) → gone ≤ n → slice_get (remove xs gone) n ≡ slice_get xs (suc n)
removed_suc [] zero n past = refl
removed_suc [] (suc gone) n past = refl
removed_suc (x ∷ xs) zero n past = refl
removed_suc (x ∷ xs) (suc gone) zero past = absurd (omega arith)
removed_suc (x ∷ xs) (suc gone) (suc n) past = removed_suc xs gone n (omega arith)

pub removed_behind : {X : Type 0} (xs : List X) (gone n : ℕ) → gone ≤ n → slice_get (remove xs gone) n ≡ slice_get xs (n + 1)
removed_behind xs gone n past =
    (let next : suc n ≡ n + 1 = omega arith in removed_suc xs gone n past ∙ ap (slice_get xs) next)

-- where an element of what is left stood
abbrev pub stood : (gone n : ℕ) → ℕ
stood gone n = if nat_lt n gone then n else n + 1

pub stood_is : (gone n : ℕ) → ((stood gone n ≡ n) × (n < gone)) ⊎ ((stood gone n ≡ n + 1) × (gone ≤ n))
stood_is gone n = elim (cases_lt n gone) [
  | inl early ↦ inl (rw (lt-ltb n gone early) refl, early)
  | inr past ↦ inr (rw (le-ltb n gone past) refl, past)
]

pub removed_at : {X : Type 0} (xs : List X) (gone n : ℕ)
    → slice_get (remove xs gone) n ≡ slice_get xs (stood gone n)
removed_at xs gone n = elim (stood_is gone n) [
  | inl early ↦ removed_before xs gone n early.1 ∙ ap (slice_get xs) (sym early.0)
  | inr past ↦ removed_behind xs gone n past.1 ∙ ap (slice_get xs) (sym past.0)
]

-- and where one that stays stands
pub stays_at : {X : Type 0} (xs : List X) (gone m : ℕ) (x : X) → m ≢ gone → slice_get xs m ≡ Some x
    → (n : ℕ) × (slice_get (remove xs gone) n ≡ Some x)
stays_at xs gone m x apart at = elim (cases_lt m gone) [
  | inl early ↦ (m, removed_before xs gone m early ∙ at)
  | inr past ↦ by m past apart at
]
  where
    by : (m : ℕ) → gone ≤ m → m ≢ gone → slice_get xs m ≡ Some x
        → (n : ℕ) × (slice_get (remove xs gone) n ≡ Some x)
    by zero past apart at = absurd (apart (omega arith))
    by (suc n) past apart at =
        let before : gone ≤ n = behind apart past in
        (n, removed_suc xs gone n before ∙ at)
      where
        behind : suc n ≢ gone → gone ≤ suc n → gone ≤ n
        behind differ late = omega (arith, differ)

module _ (numbers : List ℕ) (gone left : ℕ) (valves : HaveValves (left + 1) numbers)
    (goes : gone < length numbers) where
  pub fewer_valves : HaveValves left (remove numbers gone)
  fewer_valves = record {
    as_many = let long = length-remove numbers gone goes in let many = valves.as_many in omega arith;
    apart = λ k n id at_k at_n.
        let same = valves.apart (stood gone k) (stood gone n) id (sym (removed_at numbers gone k) ∙ at_k) (sym (removed_at numbers gone n) ∙ at_n) in
        one_place k n (stood gone k) (stood gone n) same (stood_is gone k) (stood_is gone n);
    early = λ place valve at.
        valves.early (stood gone place) valve (sym (removed_at numbers gone place) ∙ at);
  }
    where
      one_place : (k n a b : ℕ) → a ≡ b → ((a ≡ k) × (k < gone)) ⊎ ((a ≡ k + 1) × (gone ≤ k))
          → ((b ≡ n) × (n < gone)) ⊎ ((b ≡ n + 1) × (gone ≤ n)) → k ≡ n
      one_place k n a b same (inl first) (inl second) = let e = first.0 in let f = second.0 in omega arith
      one_place k n a b same (inl first) (inr second) =
          let e = first.0 in let f = second.0 in let g = first.1 in let h = second.1 in absurd (omega arith)
      one_place k n a b same (inr first) (inl second) =
          let e = first.0 in let f = second.0 in let g = first.1 in let h = second.1 in absurd (omega arith)
      one_place k n a b same (inr first) (inr second) = let e = first.0 in let f = second.0 in omega arith

  -- one that is spare then was so, or is the one that went
  pub spare_before : (valve : ℕ) → slice_get numbers gone ≢ Some valve → IsSpare (remove numbers gone) valve
      → IsSpare numbers valve
  spare_before valve other is = (
    is.0,
    λ place at.
        let there = stays_at numbers gone place valve (λ e. other (ap (slice_get numbers) (sym e) ∙ at)) at in
        is.1 there.0 there.1,
  )
