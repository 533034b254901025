-- Groups as runs of neighbours.
use Rattle.std.proofs.Common.{◌≡◌, ◌≢◌, ℕ, zero, suc, ◌+◌, ◌<◌, ◌≤◌, List, [], ap, ◌∙◌, sym, refl, Some, subst, arith, inl, inr}
use Rattle.std.specs.Prelude.{◌⊎◌, ◌↔◌, slice_get}
use Rattle.batch_model.specs.RecordSetRecord.{RecordSet}
use Rattle.batch_model.specs.Zones.{AreOneGroup}
use Rattle.batch_model.specs.Rules.{OnePolicy, BreaksAt, policy_of}
use Rattle.batch_model.specs.Zones.{IsRising}
use Rattle.batch_model.proofs.Places.{group_between}
use Rattle.zone_rules.specs.Groups.{IsStart, IsStartBefore}

-- at one place stands one set
pub at_one : (sets : List RecordSet) (i : ℕ) (x y : RecordSet) → slice_get sets i ≡ Some x
    → slice_get sets i ≡ Some y → x ≡ y
at_one sets i x y e f = grind (arith, e, f)

pub moved : (sets : List RecordSet) (j k : ℕ) (x : RecordSet) → j ≡ k → slice_get sets j ≡ Some x
    → slice_get sets k ≡ Some x
moved sets j k x e at = subst (λ n. slice_get sets n ≡ Some x) e at

pub itself : (x : RecordSet) → AreOneGroup x x
itself x = record { name = refl; rtype = refl }

pub both : (x y z : RecordSet) → AreOneGroup x y → AreOneGroup y z → AreOneGroup x z
both x y z g h = record { name = g.name ∙ h.name; rtype = g.rtype ∙ h.rtype }

pub back : (x y : RecordSet) → AreOneGroup x y → AreOneGroup y x
back x y g = record { name = sym g.name; rtype = sym g.rtype }

pub up_to : (j k : ℕ) → j ≤ k → (j < k) ⊎ (j ≡ k)
up_to zero zero le = inr refl
up_to zero (suc k) le = inl (omega arith)
up_to (suc j) zero le = absurd (omega (arith, le))
up_to (suc j) (suc k) le = elim (up_to j k (omega (arith, le))) [
  | inl lt ↦ inl (omega (arith, lt))
  | inr e ↦ inr (ap suc e)
]

-- the set before it in its group is the one before it in the list
pub mixed : (sets : List RecordSet) (j i : ℕ) (x y : RecordSet) → IsRising sets → j + 1 ≡ i
    → slice_get sets j ≡ Some x → slice_get sets i ≡ Some y
    → (AreOneGroup x y × (policy_of x.routing ≢ policy_of y.routing)) ↔ BreaksAt OnePolicy sets [] i
mixed sets j i x y rising next at_j at_i = (there, here)
  where
    there : AreOneGroup x y × (policy_of x.routing ≢ policy_of y.routing)
        → BreaksAt OnePolicy sets [] i
    there h = (
      y,
      at_i,
      record {
        at = j;
        earlier = omega (arith, next);
        set_before = x;
        there = at_j;
        one_group =
            h.0;
        nearest = λ k other jk ki e g. absurd (omega (arith, next, jk, ki));
        differs = h.1;
      },
    )

    here : BreaksAt OnePolicy sets [] i
        → AreOneGroup x y × (policy_of x.routing ≢ policy_of y.routing)
    here (set, at_set, h) = by (up_to h.at j (let lt = h.earlier in omega (arith, lt, next)))
      where
        same : set ≡ y
        same = at_one sets i set y at_set at_i

        by : (h.at < j) ⊎ (h.at ≡ j) → AreOneGroup x y × (policy_of x.routing ≢ policy_of y.routing)
        by (inl lt) =
            absurd (h.nearest j x lt (omega (arith, next)) at_j
            (group_between sets h.at j i h.set_before x set rising (omega (arith, lt))
            (omega (arith, next)) h.there at_j at_set h.one_group))
        by (inr e) =
            let first : h.set_before ≡ x =
            at_one sets j h.set_before x (moved sets h.at j h.set_before e h.there) at_j in (
              subst (λ s. AreOneGroup x s) same (subst (λ s. AreOneGroup s set) first h.one_group),
              subst (λ s. policy_of x.routing
                  ≢ policy_of s.routing) same
                  (subst (λ s. policy_of s.routing ≢ policy_of set.routing) first h.differs),
            )

-- the same where the group is known to begin before it
pub mixed_within : (sets : List RecordSet) (start j i : ℕ) (x y : RecordSet) → IsRising sets
    → IsStart sets start i → start < i → j + 1 ≡ i → slice_get sets j ≡ Some x
    → slice_get sets i ≡ Some y
    → (policy_of x.routing ≢ policy_of y.routing) ↔ BreaksAt OnePolicy sets [] i
mixed_within sets start j i x y rising s below next at_j at_i =
    let m = mixed sets j i x y rising next at_j at_i in
    let g = (s.same j x y (omega (arith, next)) at_j at_i).0 (omega (arith, below, next)) in
    ((λ differs. m.0 (g, differs)), λ breaks. (m.1 breaks).1)

-- no set of its group stands before the first
pub first_alone : (sets : List RecordSet) (i : ℕ) → IsStart sets i i → BreaksAt OnePolicy sets [] i
    → ⊥
first_alone sets i s (set, at_set, h) =
    let earlier = h.earlier in
    let le = (s.same h.at h.set_before set (omega (arith, earlier)) h.there at_set).1 h.one_group in
    omega (arith, le, earlier)

-- the group goes on
pub goes_on : (sets : List RecordSet) (start j i : ℕ) (x y : RecordSet) → j + 1 ≡ i
    → slice_get sets j ≡ Some x → slice_get sets i ≡ Some y
    → AreOneGroup x y → IsStart sets start j → IsStart sets start i
goes_on sets start j i x y next at_j at_i g s =
    record { within = (let w = s.within in omega (arith, w, next)); same = same }
  where
    same : (k : ℕ) (v w : RecordSet) → k ≤ i → slice_get sets k ≡ Some v → slice_get sets i ≡ Some w
        → (start ≤ k ↔ AreOneGroup v w)
    same k v w le at_k at_w = by (up_to k i le)
      where
        at_end : w ≡ y
        at_end = at_one sets i w y at_w at_i

        by : (k < i) ⊎ (k ≡ i) → (start ≤ k ↔ AreOneGroup v w)
        by (inl lt) =
            let before = s.same k v x (omega (arith, lt, next)) at_k at_j in (
              (λ h. subst (λ t. AreOneGroup v t) (sym at_end) (both v x y (before.0 h) g)),
              λ h. before.1 (both v y x (subst (λ t. AreOneGroup v t) at_end h) (back x y g)),
            )
        by (inr e) = (
          (λ h. subst (λ t. AreOneGroup t w)
              (sym (at_one sets i v w (moved sets k i v e at_k) at_w)) (itself w)),
          λ h. let w = s.within in omega (arith, w, next, e),
        )

-- a group begins
pub begins : (sets : List RecordSet) (i : ℕ) → IsRising sets
    → ((j : ℕ) (x y : RecordSet) → j + 1 ≡ i → slice_get sets j ≡ Some x → slice_get sets i ≡ Some y
    → AreOneGroup x y → ⊥)
    → ((j : ℕ) → j + 1 ≡ i → (x : RecordSet) × (slice_get sets j ≡ Some x))
    → IsStart sets i i
begins sets i rising apart filled = record { within = omega arith; same = same }
  where
    same : (k : ℕ) (v w : RecordSet) → k ≤ i → slice_get sets k ≡ Some v → slice_get sets i ≡ Some w
        → (i ≤ k ↔ AreOneGroup v w)
    same k v w le at_k at_w = by (up_to k i le)
      where
        by : (k < i) ⊎ (k ≡ i) → (i ≤ k ↔ AreOneGroup v w)
        by (inl lt) = ((λ h. absurd (omega (arith, lt, h))), λ h. absurd (none i refl h))
          where
            none : (n : ℕ) → n ≡ i → AreOneGroup v w → ⊥
            none zero e h = omega (arith, e, lt)
            none (suc j) e h =
                let next : j + 1 ≡ i = omega (arith, e) in
                let x = (filled j next).0 in
                let at_j : slice_get sets j ≡ Some x = (filled j next).1 in
                apart j x w next at_j at_w
                (group_between sets k j i v x w rising (omega (arith, lt, next))
                (omega (arith, next)) at_k at_j at_w h)
        by (inr e) = (
          (λ h. subst (λ t. AreOneGroup t w)
              (sym (at_one sets i v w (moved sets k i v e at_k) at_w)) (itself w)),
          λ h. omega (arith, e),
        )

pub start_next : (sets : List RecordSet) (start i : ℕ) → IsStart sets start i
    → IsStartBefore sets start (i + 1)
start_next sets start i s j e = let same : i ≡ j = omega (arith, e) in
    subst (λ n. IsStart sets start n) same s
