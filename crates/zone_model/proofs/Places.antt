-- Sets by their places in a zone.
use Rattle.std.proofs.Common.{◌≡◌, ℕ, zero, suc, ◌<◌, ◌≤◌, List, [], ◌∷◌, ap, ◌∙◌, refl, false, Some, Less, Equal, Greater, subst, arith, inl, inr}
use Rattle.std.specs.Prelude.{◌⊎◌, slice_get}
use Rattle.std.specs.List.{AllByRecursion}
use Rattle.std.specs.declared.cmp.Ordering.{Ordering}
use Rattle.std.specs.Ordering.{nat_cmp, ordering_then, ordering_reverse, is_gt}
use Rattle.std.specs.Cmp.{IsTotalOrder}
use Rattle.std.proofs.lemmas.Cmp.{on_total, then_total, nat_cmp_total, tied_itself}
use Rattle.record_set.specs.Order.{zone_cmp}
use Rattle.record_set.specs.OrderLaws.{zone_cmp_total}
use Rattle.record_set.specs.Types.{number_of}
use Rattle.record_set.specs.declared.sets.RecordSet.{RecordSet}
use Rattle.record_set.specs.Sets.{key_of}
use Rattle.zone_model.specs.Keys.{ident_cmp, key_cmp}
use Rattle.zone_model.specs.Zones.{IsRising}
use Rattle.zone_model.specs.Zones.{AreOneGroup}
use Rattle.zone_model.proofs.Ordered.{names_tie, types_tie, first_tie, second_tie}

-- what holds of all holds at each place
pub all_at : {X : Type 0} (P : X → Type 0) (xs : List X) (i : ℕ) (x : X) → AllByRecursion P xs
    → slice_get xs i ≡ Some x → P x
all_at P [] i x all e = absurd (grind (arith, e))
all_at P (first ∷ xs) zero x all e = subst P (grind (arith, e)) all.0
all_at P (first ∷ xs) (suc i) x all e = all_at P xs i x all.1 e

-- of two places the earlier has the smaller key
pub rising_at : (sets : List RecordSet) (j k : ℕ) (x y : RecordSet) → IsRising sets → j < k
    → slice_get sets j ≡ Some x → slice_get sets k ≡ Some y
    → key_cmp (key_of x) (key_of y) ≡ Less
rising_at [] j k x y rising lt at_j at_k = absurd (grind (arith, at_j))
rising_at (set ∷ sets) j zero x y rising lt at_j at_k = absurd (omega (arith, lt))
rising_at (set ∷ sets) zero (suc k) x y rising lt at_j at_k =
    let e : set ≡ x = grind (arith, at_j) in
    subst (λ s. key_cmp (key_of s) (key_of y)
    ≡ Less) e
    (all_at (λ later. key_cmp (key_of set) (key_of later) ≡ Less) sets k y rising.0 at_k)
rising_at (set ∷ sets) (suc j) (suc k) x y rising lt at_j at_k =
    rising_at sets j k x y rising.1 (omega (arith, lt)) at_j at_k

-- the order of names and types
abbrev pub group_cmp : RecordSet → RecordSet → Ordering
group_cmp x y =
    ordering_then (zone_cmp x.name y.name) (nat_cmp (number_of x.rtype) (number_of y.rtype))

pub groups_total : IsTotalOrder group_cmp
groups_total =
    then_total (on_total (λ (s : RecordSet). s.name) zone_cmp_total)
    (on_total (λ (s : RecordSet). number_of s.rtype) nat_cmp_total)

pub name_cmp_total : IsTotalOrder (λ (x y : RecordSet). zone_cmp x.name y.name)
name_cmp_total = on_total (λ (s : RecordSet). s.name) zone_cmp_total

-- the first part of an order that is not Greater is not Greater
not_greater : (o p : Ordering) → is_gt (ordering_then o p) ≡ false → is_gt o ≡ false
not_greater Less p e = refl
not_greater Equal p e = refl
not_greater Greater p e = e

-- what lies between two tied values is tied with them
tied_between : {K : Type 0} {R : K → K → Ordering} → IsTotalOrder R → (x y z : K) → R x z ≡ Equal
    → is_gt (R x y) ≡ false → is_gt (R y z) ≡ false → R y z ≡ Equal
tied_between {R = R} total x y z tie low high = by (R y z) refl high
  where
    by : (o : Ordering) → R y z ≡ o → is_gt o ≡ false → R y z ≡ Equal
    by Less e h =
        let up : R z y ≡ Greater = total.antisymm z y ∙ ap ordering_reverse e in
        let same : R x y ≡ R z y = total.congr x z y tie in
        absurd (grind (arith, low, ap is_gt same, ap is_gt up))
    by Equal e h = e
    by Greater e h = absurd (grind (arith, h))

below_or_at : (j k : ℕ) → j ≤ k → (j < k) ⊎ (j ≡ k)
below_or_at zero zero le = inr refl
below_or_at zero (suc k) le = inl (omega arith)
below_or_at (suc j) zero le = absurd (omega (arith, le))
below_or_at (suc j) (suc k) le =
    elim (below_or_at j k (omega (arith, le))) [
      | inl lt ↦ inl (omega (arith, lt))
      | inr e ↦ inr (ap suc e)
    ]

-- two places in order
pub ordered_at : (sets : List RecordSet) (j k : ℕ) (x y : RecordSet) → IsRising sets → j ≤ k
    → slice_get sets j ≡ Some x → slice_get sets k ≡ Some y
    → is_gt (group_cmp x y) ≡ false
ordered_at sets j k x y rising le at_j at_k = let split : (j < k) ⊎ (j ≡ k) = below_or_at j k le in
    by split
  where
    by : (j < k) ⊎ (j ≡ k) → is_gt (group_cmp x y) ≡ false
    by (inl lt) =
        not_greater (group_cmp x y) (ident_cmp (key_of x).ident (key_of y).ident)
        (ap is_gt (rising_at sets j k x y rising lt at_j at_k))
    by (inr e) =
        let same : x ≡ y = let here : slice_get sets k ≡ Some x =
        subst (λ n. slice_get sets n ≡ Some x) e at_j in grind (arith, here, at_k) in
        ap is_gt (subst (λ s. group_cmp x s ≡ Equal) same (tied_itself groups_total x))

pub tied_group : (x y : RecordSet) → group_cmp x y ≡ Equal → AreOneGroup x y
tied_group x y e =
    record {
      name = names_tie x.name y.name (first_tie (zone_cmp x.name y.name) _ e);
      rtype =
          types_tie x.rtype y.rtype (second_tie (zone_cmp x.name y.name) _ e);
    }

pub group_tied : (x y : RecordSet) → AreOneGroup x y → group_cmp x y ≡ Equal
group_tied x y g =
    let e : ordering_then (zone_cmp x.name x.name) (nat_cmp (number_of x.rtype) (number_of x.rtype))
    ≡ Equal = tied_itself groups_total x in
    subst (λ n. ordering_then (zone_cmp x.name n) (nat_cmp (number_of x.rtype) (number_of y.rtype))
    ≡ Equal) g.name
    (subst (λ t. ordering_then (zone_cmp x.name x.name) (nat_cmp (number_of x.rtype) (number_of t))
    ≡ Equal) g.rtype e)

-- what stands between two sets of a group is of the group
pub group_between : (sets : List RecordSet) (j k i : ℕ) (x y z : RecordSet) → IsRising sets → j ≤ k
    → k ≤ i
    → slice_get sets j ≡ Some x → slice_get sets k ≡ Some y → slice_get sets i ≡ Some z
    → AreOneGroup x z → AreOneGroup y z
group_between sets j k i x y z rising jk ki at_j at_k at_i g =
    tied_group y z
    (tied_between groups_total x y z (group_tied x z g)
    (ordered_at sets j k x y rising jk at_j at_k) (ordered_at sets k i y z rising ki at_k at_i))

-- what stands between two sets of a name has the name
pub name_between : (sets : List RecordSet) (j k i : ℕ) (x y z : RecordSet) → IsRising sets → j ≤ k
    → k ≤ i
    → slice_get sets j ≡ Some x → slice_get sets k ≡ Some y → slice_get sets i ≡ Some z
    → x.name ≡ z.name → y.name ≡ z.name
name_between sets j k i x y z rising jk ki at_j at_k at_i g =
    let tie : zone_cmp x.name z.name ≡ Equal =
    subst (λ n. zone_cmp x.name n ≡ Equal) g (tied_itself zone_cmp_total x.name) in
    names_tie y.name z.name
    (tied_between name_cmp_total x y z tie
    (not_greater _ _ (ordered_at sets j k x y rising jk at_j at_k))
    (not_greater _ _ (ordered_at sets k i y z rising ki at_k at_i)))
