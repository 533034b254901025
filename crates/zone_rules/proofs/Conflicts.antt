-- Names with a CNAME set.
use Rattle.std.proofs.Common.{◌≡◌, ◌≢◌, ℕ, zero, suc, ◌+◌, ◌<◌, ◌≤◌, List, length, ap, ◌∙◌, sym, refl, Bool, true, false, Some, subst, arith, inl, inr}
use Rattle.std.specs.Prelude.{◌⊎◌, ◌==◌, slice_get}
use Rattle.std.specs.Bool.{Decides}
use Rattle.std.proofs.lemmas.Bool.Decides.{Decides-eqb}
use Rattle.std.proofs.lemmas.Option.{slice_get_within}
use Rattle.dns_name.specs.Order.{same_labels}
use Rattle.dns_name.specs.OrderLaws.{same_labels-Decides}
use Rattle.rdata_layout.specs.Types.{number_of}
use Rattle.rdata_layout.specs.declared.types.RType.TheVariants as rtype
use Rattle.batch_model.specs.RecordSetRecord.{RecordSet}
use Rattle.batch_model.specs.Rules.{CnameAlone, BreaksAt, HasOtherType, HasCnameConflict, NoneBreaksBefore}
use Rattle.batch_model.specs.Zones.{IsRising}
use Rattle.batch_model.proofs.Among.{among_at, place_of}
use Rattle.batch_model.proofs.Ordered.{one_number}
use Rattle.batch_model.proofs.Places.{name_between}
use Rattle.zone_rules.specs.Breaks.{IsFirstName}
use Rattle.zone_rules.specs.Groups.{IsConflicted, IsOther}
use Rattle.zone_rules.proofs.Runs.{at_one, moved, up_to}
use Rattle.zone_rules.proofs.FullGroups.{filled, below_or_not}

-- a conflict seen at a place is one of the name
pub of_name : (sets : List RecordSet) (apex : List (List ℕ)) (i : ℕ) (z : RecordSet)
    → slice_get sets i ≡ Some z → IsConflicted sets apex i → HasCnameConflict sets apex z.name
of_name sets apex i z at_i h =
    ((h.set, among_at sets i h.set h.there, same_name, h.cname), by h.why)
  where
    same : h.set ≡ z
    same = at_one sets i h.set z h.there at_i

    same_name : h.set.name ≡ z.name
    same_name = ap (λ (s : RecordSet). s.name) same

    by : ((h.set.name ≡ apex)
        ⊎ ((other : RecordSet) × (j : ℕ) × (j + 1 ≡ i) × (slice_get sets j ≡ Some other)
        × IsOther other h.set)
        ⊎ ((other : RecordSet) × (slice_get sets (i + 1) ≡ Some other) × IsOther other h.set))
        → HasOtherType sets z.name ⊎ (z.name ≡ apex)
    by (inl e) = inr (sym same_name ∙ e)
    by (inr (inl (other, j, next, at_j, is_other))) =
        inl (other, among_at sets j other at_j, is_other.0 ∙ same_name, is_other.1)
    by (inr (inr (other, at_j, is_other))) =
        inl (other, among_at sets (i + 1) other at_j, is_other.0 ∙ same_name, is_other.1)

cname-Decides : (x : RecordSet)
    → Decides (number_of x.rtype == number_of rtype.Cname) (x.rtype ≡ rtype.Cname)
cname-Decides x =
    let d = Decides-eqb (number_of x.rtype) (number_of rtype.Cname) in
    ((λ e. one_number x.rtype rtype.Cname (d.0 e)), λ e. d.1 (ap number_of e))

-- a place at which a conflict of the name is seen
pub record Seen (sets : List RecordSet) (apex name : List (List ℕ)) : Type 0 where
  pub at : ℕ
  pub set : RecordSet
  pub there : slice_get sets at ≡ Some set
  pub same : set.name ≡ name
  pub conflict : IsConflicted sets apex at

-- a CNAME set above a set of its name and another type: somewhere between them the two meet
meets_below : (sets : List RecordSet) (apex : List (List ℕ)) (j i : ℕ) (x z : RecordSet)
    → IsRising sets → j < i → slice_get sets j ≡ Some x → slice_get sets i ≡ Some z
    → x.name ≡ z.name → x.rtype ≢ rtype.Cname → z.rtype ≡ rtype.Cname → Seen sets apex z.name
meets_below sets apex j zero x z rising lt at_j at_i name other cname = absurd (omega (arith, lt))
meets_below sets apex j (suc i) x z rising lt at_j at_i name other cname =
    let room : i < length sets =
    (let w = slice_get_within sets (suc i) z at_i in omega (arith, w)) in
    let y = filled sets i room in
    let y_name : y.0.name ≡ z.name =
    name_between sets j i (suc i) x y.0 z rising (omega (arith, lt)) (omega arith) at_j y.1 at_i
    name in
    by y.0 y.1 y_name (λ less cn. meets_below sets apex j i x y.0 rising less at_j y.1 (name
    ∙ sym y_name) other cn) (number_of y.0.rtype == number_of rtype.Cname) refl
  where
    by : (y : RecordSet) → slice_get sets i ≡ Some y → y.name ≡ z.name
        → (j < i → y.rtype ≡ rtype.Cname → Seen sets apex y.name)
        → (b : Bool) → (number_of y.rtype == number_of rtype.Cname) ≡ b → Seen sets apex z.name
    by y at_y y_name deeper false e =
        record {
          at = suc i;
          set = z;
          there = at_i;
          same = refl;
          conflict =
              record {
                set = z;
                there = at_i;
                cname = cname;
                why =
                    inr (inl (
                      y,
                      i,
                      omega arith,
                      at_y,
                      (y_name, λ c. let t = (cname-Decides y).1 c in absurd (grind (arith, t, e))),
                    ));
              };
        }
    by y at_y y_name deeper true e = below (up_to j i (omega (arith, lt)))
      where
        y_cname : y.rtype ≡ rtype.Cname
        y_cname = (cname-Decides y).0 e

        below : (j < i) ⊎ (j ≡ i) → Seen sets apex z.name
        below (inl less) = subst (λ n. Seen sets apex n) y_name (deeper less y_cname)
        below (inr same) =
            absurd (other
            (ap (λ (s : RecordSet). s.rtype) (at_one sets i x y (moved sets j i x same at_j) at_y)
            ∙ y_cname))

-- the same where the CNAME set stands below
meets_above : (sets : List RecordSet) (apex : List (List ℕ)) (n i j : ℕ) (z x : RecordSet)
    → IsRising sets → i + suc n ≡ j → slice_get sets i ≡ Some z → slice_get sets j ≡ Some x
    → x.name ≡ z.name → x.rtype ≢ rtype.Cname → z.rtype ≡ rtype.Cname → Seen sets apex z.name
meets_above sets apex zero i j z x rising e at_i at_j name other cname =
    record {
      at = i;
      set = z;
      there = at_i;
      same = refl;
      conflict =
          record {
            set = z;
            there = at_i;
            cname = cname;
            why =
                inr (inr (x, moved sets j (i + 1) x (omega (arith, e)) at_j, (name, other)));
          };
    }
meets_above sets apex (suc n) i j z x rising e at_i at_j name other cname =
    let room : i + 1 < length sets =
    (let w = slice_get_within sets j x at_j in omega (arith, w, e)) in
    let y = filled sets (i + 1) room in
    let y_name : y.0.name ≡ x.name =
    name_between sets i (i + 1) j z y.0 x rising (omega arith) (omega (arith, e)) at_i y.1 at_j
    (sym name) in
    by y.0 y.1 (y_name
    ∙ name) (λ cn. meets_above sets apex n (i + 1) j y.0 x rising (omega (arith, e)) y.1 at_j
    (sym y_name) other cn) (number_of y.0.rtype == number_of rtype.Cname) refl
  where
    by : (y : RecordSet) → slice_get sets (i + 1) ≡ Some y → y.name ≡ z.name
        → (y.rtype ≡ rtype.Cname → Seen sets apex y.name)
        → (b : Bool) → (number_of y.rtype == number_of rtype.Cname) ≡ b → Seen sets apex z.name
    by y at_y y_name deeper false t =
        record {
          at = i;
          set = z;
          there = at_i;
          same = refl;
          conflict =
              record {
                set = z;
                there = at_i;
                cname = cname;
                why =
                    inr (inr (
                      y,
                      at_y,
                      (y_name, λ c. let u = (cname-Decides y).1 c in absurd (grind (arith, t, u))),
                    ));
              };
        }
    by y at_y y_name deeper true t =
        subst (λ n. Seen sets apex n) y_name (deeper ((cname-Decides y).0 t))

module _ (sets : List RecordSet) (apex name : List (List ℕ)) (rising : IsRising sets)
    (z : RecordSet) (i : ℕ) (at_i : slice_get sets i ≡ Some z)
    (z_name : z.name ≡ name) (cname : z.rtype ≡ rtype.Cname) where
  -- a CNAME at the apex is seen where it stands
  seen_at_apex : name ≡ apex → Seen sets apex name
  seen_at_apex e =
      record {
        at = i;
        set = z;
        there = at_i;
        same = z_name;
        conflict =
            record { set = z; there = at_i; cname = cname; why = inl (z_name ∙ e) };
      }

  -- a set of another type beside it is seen
  seen_beside : (x : RecordSet) (j : ℕ) → slice_get sets j ≡ Some x → x.name ≡ name
      → x.rtype ≢ rtype.Cname → Seen sets apex name
  seen_beside x j at_j x_name other = subst (λ n. Seen sets apex n) z_name (by (order j i))
    where
      order : (a b : ℕ) → (a < b) ⊎ ((n : ℕ) × (b + n ≡ a))
      order a zero = inr (a, omega arith)
      order zero (suc b) = inl (omega arith)
      order (suc a) (suc b) =
          elim (order a b) [
            | inl lt ↦ inl (omega (arith, lt))
            | inr r ↦ inr (r.0, (let e = r.1 in omega (arith, e)))
          ]

      by : (j < i) ⊎ ((n : ℕ) × (i + n ≡ j)) → Seen sets apex z.name
      by (inl lt) =
          meets_below sets apex j i x z rising lt at_j at_i (x_name ∙ sym z_name) other cname
      by (inr (zero, e)) =
          absurd (other
          (ap (λ (s : RecordSet). s.rtype)
          (at_one sets j x z at_j (moved sets i j z (omega (arith, e)) at_i)) ∙ cname))
      by (inr (suc n, e)) =
          meets_above sets apex n i j z x rising e at_i at_j (x_name ∙ sym z_name) other cname

-- a name with a conflict has a place at which it is seen
pub seen : (sets : List RecordSet) (apex name : List (List ℕ)) → IsRising sets
    → HasCnameConflict sets apex name → Seen sets apex name
seen sets apex name rising ((z, there, z_name, cname), inr e) =
    let place = place_of sets z there in
    seen_at_apex sets apex name rising z place.0 place.1 z_name cname e
seen sets apex name rising ((z, there, z_name, cname), inl (x, there_too, x_name, other)) =
    let place = place_of sets z there in
    let place_too = place_of sets x there_too in
    seen_beside sets apex name rising z place.0 place.1 z_name cname x place_too.0 place_too.1
    x_name other

-- the first set of a name
pub record FirstOfName (sets : List RecordSet) (i : ℕ) (z : RecordSet) : Type 0 where
  pub at : ℕ
  pub within : at ≤ i
  pub first : (k : ℕ) (x : RecordSet) → slice_get sets k ≡ Some x → x.name ≡ z.name → at ≤ k
  pub set : RecordSet
  pub there : slice_get sets at ≡ Some set
  pub same : set.name ≡ z.name

pub first_of_name : (sets : List RecordSet) (i : ℕ) (z : RecordSet) → IsRising sets
    → slice_get sets i ≡ Some z → FirstOfName sets i z
first_of_name sets zero z rising at_i =
    record {
      at = 0;
      within = omega arith;
      first = λ k x at_k g. omega arith;
      set = z;
      there =
          at_i;
      same = refl;
    }
first_of_name sets (suc i) z rising at_i =
    let room : i < length sets =
    (let lt = slice_get_within sets (suc i) z at_i in omega (arith, lt)) in
    let y = filled sets i room in
    by y.0 y.1 (first_of_name sets i y.0 rising y.1) (same_labels y.0.name z.name) refl
  where
    by : (y : RecordSet) → slice_get sets i ≡ Some y → FirstOfName sets i y → (b : Bool)
        → same_labels y.name z.name ≡ b → FirstOfName sets (suc i) z
    by y at_y r true e =
        let g = (same_labels-Decides y.name z.name).0 e in
        record {
          at = r.at;
          within = (let le = r.within in omega (arith, le));
          first = λ k x at_k h. r.first k x at_k (h ∙ sym g);
          set = r.set;
          there = r.there;
          same = r.same ∙ g;
        }
    by y at_y r false e =
        record {
          at = suc i;
          within = omega arith;
          first = first;
          set = z;
          there = at_i;
          same =
              refl;
        }
      where
        first : (k : ℕ) (x : RecordSet) → slice_get sets k ≡ Some x → x.name ≡ z.name → suc i ≤ k
        first k x at_k g = at_place (below_or_not k (suc i))
          where
            at_place : (k < suc i) ⊎ (suc i ≤ k) → suc i ≤ k
            at_place (inl lt) =
                let h = name_between sets k i (suc i) x y z rising (omega (arith, lt)) (omega arith)
                at_k at_y at_i g in
                absurd (let t = (same_labels-Decides y.name z.name).1 h in grind (arith, t, e))
            at_place (inr le) = le

-- where no conflict is seen, no name has one
pub none_conflicts : (sets : List RecordSet) (apex : List (List ℕ)) → IsRising sets
    → ((j : ℕ) → j < length sets → IsConflicted sets apex j → ⊥)
    → (i : ℕ) → BreaksAt CnameAlone sets apex i → ⊥
none_conflicts sets apex rising none i (x, at_i, conflict) =
    let s = seen sets apex x.name rising conflict in
    none s.at (slice_get_within sets s.at s.set s.there) s.conflict

-- the first conflict that is seen is of the first name that has one
pub first_name : (sets : List RecordSet) (apex : List (List ℕ)) (i : ℕ) (z : RecordSet)
    → IsRising sets → slice_get sets i ≡ Some z → IsConflicted sets apex i
    → ((j : ℕ) → j < i → IsConflicted sets apex j → ⊥)
    → IsFirstName CnameAlone sets apex (Some z.name)
first_name sets apex i z rising at_i conflicted none =
    let b = first_of_name sets i z rising at_i in
    let conflict = of_name sets apex i z at_i conflicted in (
      b.at,
      b.set,
      b.there,
      sym b.same,
      (b.set, b.there, subst (λ n. HasCnameConflict sets apex n) (sym b.same) conflict),
      earlier b,
    )
  where
    earlier : (b : FirstOfName sets i z) → NoneBreaksBefore CnameAlone sets apex b.at
    earlier b q lt (x, at_q, conflict) = let w = seen sets apex x.name rising conflict in
        by w (below_or_not w.at i)
      where
        by : (w : Seen sets apex x.name) → (w.at < i) ⊎ (i ≤ w.at) → ⊥
        by w (inl less) = none w.at less w.conflict
        by w (inr more) =
            let name : z.name ≡ w.set.name =
            name_between sets q i w.at x z w.set rising (let le = b.within in
            omega (arith, lt, le)) more at_q at_i w.there (sym w.same) in
            let p = b.first q x at_q (sym (name ∙ w.same)) in
            omega (arith, p, lt)
