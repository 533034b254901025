-- The law of what is chosen.
use Rattle.std.proofs.Common.{◌≡◌, ◌≢◌, ◌<◌, ◌+◌, ◌-◌, ◌%◌, ℕ, Bool, List, length, get_or, min, arith, sym, ap, ◌∙◌, inl, inr, subst, length-take}
use Rattle.std.proofs.lemmas.Bool.{cases_lt, cases_order}
use Rattle.std.proofs.lemmas.List.{get_or-take}
use Rattle.std.proofs.Math.Nat.{mod-eq_of_lt}
use Rattle.considered_sets.specs.Considered.{places, IsConsidered}
use Rattle.considered_sets.proofs.Flags.{in_order, place_considered}
use Rattle.multivalue.specs.Choice.{cyclic_from, chosen}
use Rattle.multivalue.specs.Laws.{EightAtMost}
use Rattle.multivalue.proofs.Chosen.{few, many}
use Rattle.multivalue.proofs.Cyclic.{length_cyclic, get_cyclic, around}

-- two places less than once round apart differ
round : (n start i j : ℕ) → start < n → i < j → j < n → (start + i) % n ≢ (start + j) % n
round n start i j at before lt e = elim (cases_lt (start + i) n) [
  | inl first ↦
      let a : (start + i) % n ≡ start + i = mod-eq_of_lt first in
      elim (cases_lt (start + j) n) [
        | inl second ↦ let b : (start + j) % n ≡ start + j = mod-eq_of_lt second in
            omega (arith, a, b, e)
        | inr past ↦ let b : (start + j) % n ≡ start + j - n =
            around (start + j) n past (omega arith) in omega (arith, a, b, e)
      ]
  | inr past ↦
      let a : (start + i) % n ≡ start + i - n = around (start + i) n past (omega arith) in
      let b : (start + j) % n ≡ start + j - n = around (start + j) n (omega arith) (omega arith) in
      omega (arith, a, b, e)
]

-- a set stands at one place
one_place : (hs : List Bool) (i j : ℕ) → i < length (places hs) → j < length (places hs)
    → get_or (places hs) i 0 ≡ get_or (places hs) j 0 → i ≡ j
one_place hs i j a b e = elim (cases_order i j) [
  | inl same ↦ same
  | inr (inl lt) ↦ absurd (omega (arith, in_order hs i j lt b))
  | inr (inr gt) ↦ absurd (omega (arith, in_order hs j i gt a))
]

module _ (hs : List Bool) (word : ℕ) where
  -- where the choice begins, and the place of the set after so many
  abbrev start : ℕ
  start = word % length (places hs)

  abbrev on : ℕ → ℕ
  on j = (word % length (places hs) + j) % length (places hs)

  each : (j : ℕ) → 8 < length (places hs) → j < 8
      → get_or (chosen hs word) j 0 ≡ get_or (places hs) (on j) 0
  each j lt b = ap (λ l. get_or l j 0) (many hs word lt)
      ∙ (get_or-take 8 (cyclic_from start (places hs)) j 0 b
      ∙ get_cyclic start (places hs) (omega arith) j (omega arith))

  as_many : length (chosen hs word) ≡ min 8 (length (places hs))
  as_many = elim (cases_lt 8 (length (places hs))) [
    | inl lt ↦ ap length (many hs word lt)
        ∙ omega (
          arith,
          length-take 8 (cyclic_from start (places hs)),
          length_cyclic start (places hs) (omega arith),
        )
    | inr le ↦ ap length (few hs word le) ∙ omega arith
  ]

  each_considered : (j : ℕ) → j < length (chosen hs word)
      → IsConsidered hs (get_or (chosen hs word) j 0)
  each_considered j b = elim (cases_lt 8 (length (places hs))) [
    | inl lt ↦
        subst (IsConsidered hs) (sym (each j lt (omega (arith, as_many))))
        (place_considered hs (on j) (omega arith))
    | inr le ↦
        subst (λ (l : List ℕ). IsConsidered hs (get_or l j 0)) (sym (few hs word le))
        (place_considered hs j (omega (arith, as_many)))
  ]

  none_twice : (i j : ℕ) → i < j → j < length (chosen hs word)
      → get_or (chosen hs word) i 0 ≢ get_or (chosen hs word) j 0
  none_twice i j before b e = elim (cases_lt 8 (length (places hs))) [
    | inl lt ↦
        let same : get_or (places hs) (on i) 0 ≡ get_or (places hs) (on j) 0 =
        sym (each i lt (omega (arith, as_many))) ∙ (e ∙ each j lt (omega (arith, as_many))) in
        round (length (places hs)) start i j (omega arith) before (omega (arith, as_many))
        (one_place hs (on i) (on j) (omega arith) (omega arith) same)
    | inr le ↦
        let same : get_or (places hs) i 0 ≡ get_or (places hs) j 0 =
        sym (ap (λ l. get_or l i 0) (few hs word le))
        ∙ (e ∙ ap (λ l. get_or l j 0) (few hs word le)) in
        let apart : get_or (places hs) i 0 < get_or (places hs) j 0 =
        in_order hs i j before (omega (arith, as_many)) in
        omega arith
  ]

pub eight : EightAtMost
eight = record {
  as_many = as_many;
  each_considered = each_considered;
  none_twice = none_twice;
  few = few;
  many = λ hs word j lt b. each hs word j lt b;
}
