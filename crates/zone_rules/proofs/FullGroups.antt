-- Groups of more than 100.
use Rattle.std.proofs.Common.{◌≡◌, ℕ, zero, suc, ◌+◌, ◌<◌, ◌≤◌, List, [], ◌∷◌, length, ap, refl, Bool, true, false, Some, arith, inl, inr}
use Rattle.std.specs.Prelude.{◌⊎◌, ◌==◌, slice_get}
use Rattle.std.specs.Bool.{Decides}
use Rattle.std.proofs.lemmas.Bool.Decides.{Decides-eqb, Decides-and}
use Rattle.std.proofs.lemmas.Option.{slice_get_within}
use Rattle.dns_name.specs.Order.{same_labels}
use Rattle.dns_name.specs.OrderLaws.{same_labels-Decides}
use Rattle.rdata_layout.specs.Types.{number_of}
use Rattle.batch_model.specs.RecordSetRecord.{RecordSet}
use Rattle.batch_model.specs.Zones.{AreOneGroup}
use Rattle.batch_model.specs.Rules.{GroupSize, BreaksAt, IsInFullGroup}
use Rattle.batch_model.specs.Zones.{IsRising, is_of_group, group}
use Rattle.batch_model.proofs.Ordered.{one_number}
use Rattle.batch_model.proofs.Places.{group_between}
use Rattle.zone_rules.specs.Groups.{IsStart, NoneFarBefore}
use Rattle.zone_rules.proofs.Counting.{at_least, at_most}
use Rattle.zone_rules.proofs.Runs.{itself, both, back}

-- the test of a group
pub is_of_group-Decides : (z x : RecordSet)
    → Decides (is_of_group z.name z.rtype x) (AreOneGroup z x)
is_of_group-Decides z x =
    let all =
    Decides-and (same_labels z.name x.name) (number_of z.rtype == number_of x.rtype)
    (same_labels-Decides z.name x.name) (Decides-eqb (number_of z.rtype) (number_of x.rtype)) in (
      (λ e. let b = all.0 e in record { name = b.0; rtype = one_number z.rtype x.rtype b.1 }),
      λ g. all.1 (g.name, ap number_of g.rtype),
    )

-- some place of a list holds a set
pub filled : (sets : List RecordSet) (k : ℕ) → k < length sets
    → (x : RecordSet) × (slice_get sets k ≡ Some x)
filled [] k lt = absurd (omega (arith, lt))
filled (set ∷ sets) zero lt = (set, refl)
filled (set ∷ sets) (suc k) lt = filled sets k (omega (arith, lt))

-- a number is below another, or not
pub below_or_not : (a b : ℕ) → (a < b) ⊎ (b ≤ a)
below_or_not a zero = inr (omega arith)
below_or_not zero (suc b) = inl (omega arith)
below_or_not (suc a) (suc b) =
    elim (below_or_not a b) [ inl lt ↦ inl (omega (arith, lt)) | inr le ↦ inr (omega (arith, le)) ]

-- the first set of a group
pub record FirstOfGroup (sets : List RecordSet) (i : ℕ) (z : RecordSet) : Type 0 where
  pub at : ℕ
  pub within : at ≤ i
  pub first : (k : ℕ) (x : RecordSet) → slice_get sets k ≡ Some x → AreOneGroup z x → at ≤ k
  pub set : RecordSet
  pub there : slice_get sets at ≡ Some set
  pub same : AreOneGroup z set

pub first_of_group : (sets : List RecordSet) (i : ℕ) (z : RecordSet) → IsRising sets
    → slice_get sets i ≡ Some z → FirstOfGroup sets i z
first_of_group sets zero z rising at_i =
    record {
      at = 0;
      within = omega arith;
      first = λ k x at_k g. omega arith;
      set = z;
      there =
          at_i;
      same = itself z;
    }
first_of_group sets (suc i) z rising at_i =
    let room : i < length sets =
    (let lt = slice_get_within sets (suc i) z at_i in omega (arith, lt)) in
    let y = filled sets i room in
    by y.0 y.1 (first_of_group sets i y.0 rising y.1) (is_of_group z.name z.rtype y.0) refl
  where
    by : (y : RecordSet) → slice_get sets i ≡ Some y → FirstOfGroup sets i y → (b : Bool)
        → is_of_group z.name z.rtype y ≡ b → FirstOfGroup sets (suc i) z
    by y at_y r true e =
        let g = (is_of_group-Decides z y).0 e in
        record {
          at = r.at;
          within = (let le = r.within in omega (arith, le));
          first = λ k x at_k h. r.first k x at_k (both y z x (back z y g) h);
          set = r.set;
          there = r.there;
          same = both z y r.set g r.same;
        }
    by y at_y r false e =
        record {
          at = suc i;
          within = omega arith;
          first = first;
          set = z;
          there = at_i;
          same =
              itself z;
        }
      where
        first : (k : ℕ) (x : RecordSet) → slice_get sets k ≡ Some x → AreOneGroup z x → suc i ≤ k
        first k x at_k g = at_place (below_or_not k (suc i))
          where
            at_place : (k < suc i) ⊎ (suc i ≤ k) → suc i ≤ k
            at_place (inl lt) =
                let h = group_between sets k i (suc i) x y z rising (omega (arith, lt))
                (omega arith) at_k at_y at_i (back z x g) in
                absurd (let t = (is_of_group-Decides z y).1 (back y z h) in grind (arith, t, e))
            at_place (inr le) = le

-- where no two sets of a group are 100 places apart, a group has no more than 100
pub group_fits : (sets : List RecordSet) (n i : ℕ) (z : RecordSet) → IsRising sets
    → slice_get sets i ≡ Some z → NoneFarBefore sets n
    → ((k : ℕ) (x : RecordSet) → slice_get sets k ≡ Some x → AreOneGroup z x → k < n)
    → length (group sets z.name z.rtype) ≤ 100
group_fits sets n i z rising at_i near within =
    let b = first_of_group sets i z rising at_i in
    at_most (is_of_group z.name z.rtype) sets b.at 100 (each b)
  where
    each : (b : FirstOfGroup sets i z) → (k : ℕ) (x : RecordSet) → slice_get sets k ≡ Some x
        → is_of_group z.name z.rtype x ≡ true → (b.at ≤ k) × (k < b.at + 100)
    each b k x at_k passes = (b.first k x at_k g, by (below_or_not k (b.at + 100)))
      where
        g : AreOneGroup z x
        g = (is_of_group-Decides z x).0 passes

        by : (k < b.at + 100) ⊎ (b.at + 100 ≤ k) → k < b.at + 100
        by (inl lt) = lt
        by (inr le) =
            absurd (near b.at k b.set x (within k x at_k g) le b.there at_k
            (both b.set z x (back z b.set b.same) g))

-- no group of the whole list is full
pub none_full : (sets : List RecordSet) → IsRising sets → NoneFarBefore sets (length sets) → (i : ℕ)
    → BreaksAt GroupSize sets [] i → ⊥
none_full sets rising near i (z, at_i, full) =
    let fits =
    group_fits sets (length sets) i z rising at_i near
    (λ k x at_k g. slice_get_within sets k x at_k) in
    omega (arith, full, fits)

-- a group that has come to 101 sets is the first full one
pub full_at : (sets : List RecordSet) (start i : ℕ) (z : RecordSet) → IsRising sets
    → IsStart sets start i → slice_get sets i ≡ Some z → start + 100 ≤ i
    → NoneFarBefore sets i
    → (start < length sets) × BreaksAt GroupSize sets [] start
    × ((k : ℕ) → k < start → BreaksAt GroupSize sets [] k → ⊥)
full_at sets start i z rising s at_i far near = (room, (y, at_y, full), first)
  where
    inside : i < length sets
    inside = slice_get_within sets i z at_i

    room : start < length sets
    room = let lt = inside in omega (arith, lt, far)

    y : RecordSet
    y = (filled sets start room).0

    at_y : slice_get sets start ≡ Some y
    at_y = (filled sets start room).1

    with_last : AreOneGroup y z
    with_last = (s.same start y z (let w = s.within in omega (arith, w)) at_y at_i).0 (omega arith)

    full : IsInFullGroup sets y
    full =
        let many = at_least (is_of_group y.name y.rtype) sets start 101 member in
        omega (arith, many)
      where
        member : (k : ℕ) → start ≤ k → k < start + 101
            → (x : RecordSet) × (slice_get sets k ≡ Some x) × (is_of_group y.name y.rtype x ≡ true)
        member k le lt =
            let here = inside in
            let x = filled sets k (omega (arith, lt, far, here)) in
            let g = (s.same k x.0 z (omega (arith, lt, far)) x.1 at_i).0 le in
            (x.0, x.1, (is_of_group-Decides y x.0).1 (both y z x.0 with_last (back x.0 z g)))

    first : (k : ℕ) → k < start → BreaksAt GroupSize sets [] k → ⊥
    first k lt (w, at_k, many) =
        let fits = group_fits sets i k w rising at_k near before in
        omega (arith, many, fits)
      where
        before : (p : ℕ) (x : RecordSet) → slice_get sets p ≡ Some x → AreOneGroup w x → p < i
        before p x at_p g = by (below_or_not p start)
          where
            by : (p < start) ⊎ (start ≤ p) → p < i
            by (inl less) = omega (arith, less, far)
            by (inr le) =
                let h : AreOneGroup y x =
                group_between sets k start p w y x rising (omega (arith, lt)) le at_k at_y at_p
                g in
                let up : AreOneGroup w z = both w x z g (both x y z (back y x h) with_last) in
                absurd (let le = (s.same k w z (omega (arith, lt, far)) at_k at_i).1 up in
                omega (arith, le, lt))
