-- The first place at which a rule on groups is broken, one set after another.
use Rattle.std.proofs.Common.{◌≡◌, ℕ, ◌+◌, ◌<◌, ◌≤◌, List, [], length, Bool, true, false, not, Option, None, Some, subst, sym, arith, below_more, inl, inr}
use Rattle.std.specs.Prelude.{◌⊎◌}
use Rattle.std.specs.Option.{is_some}
use Rattle.batch_model.specs.RecordSetRecord.{RecordSet}
use Rattle.batch_model.specs.Rules.{Rule, GroupSize, BreaksAt}
use Rattle.batch_model.specs.Zones.{IsRising}
use Rattle.zone_rules.specs.Breaks.{IsFirstPlace, IsFirstBefore, IsFullBefore}
use Rattle.zone_rules.specs.Groups.{IsStart}
use Rattle.zone_rules.proofs.FullGroups.{filled, full_at, none_full}
use Rattle.zone_rules.proofs.Runs.{moved, up_to}

-- what was found before place n, and what is found with it
module _ (rule : Rule) (sets : List RecordSet) (n : ℕ) where
  -- the rule is broken at it for the first time
  pub first_here : (before after : Option ℕ) (none : Bool) → is_some before ≡ not none → none ≡ true
      → BreaksAt rule sets [] n → after ≡ Some n
      → IsFirstBefore rule sets n before → IsFirstBefore rule sets (n + 1) after
  first_here None after none is t here e h =
      subst (λ found. IsFirstBefore rule sets (n + 1) found) (sym e) (omega arith, here, h)
  first_here (Some k) after none is t here e h = absurd (grind (arith, is, t))

  -- it is still unbroken
  pub none_here : (before after : Option ℕ) (none : Bool) → is_some before ≡ not none → none ≡ true
      → (BreaksAt rule sets [] n → ⊥) → after ≡ before
      → IsFirstBefore rule sets n before → IsFirstBefore rule sets (n + 1) after
  none_here None after none is t unbroken e h =
      subst (λ found. IsFirstBefore rule sets (n + 1) found) (sym e) (below_more _ _ h unbroken)
  none_here (Some k) after none is t unbroken e h = absurd (grind (arith, is, t))

  -- it was broken before
  pub first_stays : (before after : Option ℕ) (none : Bool) → is_some before ≡ not none
      → none ≡ false → after ≡ before → IsFirstBefore rule sets n before
      → IsFirstBefore rule sets (n + 1) after
  first_stays None after none is f e h = absurd (grind (arith, is, f))
  first_stays (Some k) after none is f e h = let lt = h.0 in
      subst (λ found. IsFirstBefore rule sets (n + 1) found) (sym e) (omega (arith, lt), h.1, h.2)

  -- all places have been looked at
  pub first_of_all : (found : Option ℕ) → n ≤ length sets → length sets ≤ n
      → IsFirstBefore rule sets n found → IsFirstPlace rule sets [] found
  first_of_all None within all h = λ i lt. h i (omega (arith, lt, all))
  first_of_all (Some i) within all h = let lt = h.0 in (omega (arith, lt, within), h.1, h.2)

module _ (sets : List RecordSet) (n : ℕ) where
  -- the group at place n comes to more than 100 sets
  pub full_here : (before after : Option ℕ) (start : ℕ) (none : Bool) → is_some before ≡ not none
      → none ≡ true → IsRising sets → n < length sets → IsStart sets start n → start + 100 ≤ n
      → after ≡ Some start
      → IsFullBefore sets n before → IsFullBefore sets (n + 1) after
  full_here None after start none is t rising within s far e near =
      let z = filled sets n within in
      subst (λ found. IsFullBefore sets (n + 1) found) (sym e)
      (full_at sets start n z.0 rising s z.1 far near)
  full_here (Some k) after start none is t rising within s far e near =
      absurd (grind (arith, is, t))

  -- it has no more than 100 up to there
  pub none_far_here : (before after : Option ℕ) (start : ℕ) (none : Bool)
      → is_some before ≡ not none → none ≡ true → IsStart sets start n → (start + 100 ≤ n → ⊥)
      → after ≡ before
      → IsFullBefore sets n before → IsFullBefore sets (n + 1) after
  none_far_here None after start none is t s close e near =
      subst (λ found. IsFullBefore sets (n + 1) found) (sym e) apart
    where
      apart : IsFullBefore sets (n + 1) None
      apart j k x y lt far at_j at_k g = by (up_to k n (omega (arith, lt)))
        where
          by : (k < n) ⊎ (k ≡ n) → ⊥
          by (inl less) = near j k x y less far at_j at_k g
          by (inr same) =
              let le = (s.same j x y (omega (arith, far, same)) at_j (moved sets k n y same at_k)).1
              g in
              close (omega (arith, le, far, same))
  none_far_here (Some k) after start none is t s close e near = absurd (grind (arith, is, t))

  -- a group was full before
  pub full_stays : (before after : Option ℕ) (none : Bool) → is_some before ≡ not none
      → none ≡ false → after ≡ before → IsFullBefore sets n before → IsFullBefore sets (n + 1) after
  full_stays None after none is f e h = absurd (grind (arith, is, f))
  full_stays (Some k) after none is f e h =
      subst (λ found. IsFullBefore sets (n + 1) found) (sym e) h

  -- all places have been looked at
  pub full_of_all : (found : Option ℕ) → IsRising sets → length sets ≤ n → IsFullBefore sets n found
      → IsFirstPlace GroupSize sets [] found
  full_of_all None rising all near =
      λ i lt. none_full sets rising
      (λ j k x y less far at_j at_k g. near j k x y (omega (arith, less, all)) far at_j at_k g) i
  full_of_all (Some start) rising all h = h
