-- The sets that references of a group's members name.
use Rattle.std.proofs.Common.{◌≡◌, ◌≢◌, ◌<◌, ◌+◌, ℕ, zero, suc, Bool, true, false, List, [], ◌∷◌}
use Rattle.std.proofs.Common.{Some, take, drop, refl, sym, ap, ◌∙◌, subst, inl, inr}
use Rattle.std.proofs.Common.{arith}
use Rattle.std.specs.Prelude.{cond, slice_get, ◌==◌}
use Rattle.std.specs.List.{AllByRecursion}
use Rattle.std.specs.Option.{option_map}
use Rattle.std.proofs.lemmas.Option.{slice_get-map}
use Rattle.std.proofs.lemmas.Cmp.{tied_itself}
use Rattle.std.specs.List.{find}
use Rattle.std.specs.Ordering.{is_eq}
use Rattle.std.specs.declared.cmp.Ordering.{Ordering}
use Rattle.std.specs.declared.cmp.Ordering.TheVariants.{Less, Equal, Greater}
use Rattle.zone_table.specs.SetsOfRecordSet.{key_of}
use Rattle.zone_table.specs.RecordSetRecord.{RecordSet}
use Rattle.zone_table.specs.Octets.{HasSpelling}
use Rattle.zone_table.proofs.Members.{in_all, one_of_key}
use Rattle.zone_table.specs.Zones.{AreZones, CanStand, StandsAlone, Zone, placed_in}
use Rattle.zone_table.specs.SetRefRecord.{SetRef}
use Rattle.zone_table.proofs.Among.{among_at}
use Rattle.zone_table.proofs.Ordered.{keys_tie, keys_total}
use Rattle.zone_table.specs.Keys.{key_cmp}
use Rattle.zone_table.specs.Sets.{IsAmong, IsRising}
use Rattle.zone_table.specs.Slotted.{HaveOwnSlots, Slotted, sets_of}
use Rattle.zone_table.specs.Looking.{IsSetOfGroup, RefersTo}
use Rattle.zone_table.specs.GroupRecord.{Group}
use Rattle.policy_select.specs.Groups.{ViewsAgree, members_of, said_of, sets_in}

module _ {X : Type 0} where
  pub got_of_take : (xs : List X) (n i : ℕ) → i < n → slice_get (take n xs) i ≡ slice_get xs i
  got_of_take xs zero i within = absurd (omega (arith, within))
  got_of_take [] (suc n) i within = refl
  got_of_take (x ∷ xs) (suc n) zero within = refl
  got_of_take (x ∷ xs) (suc n) (suc i) within = got_of_take xs n i (omega (arith, within))

  pub got_of_drop : (xs : List X) (s i : ℕ) → slice_get (drop s xs) i ≡ slice_get xs (s + i)
  got_of_drop xs zero i =
      let none : i ≡ zero + i = omega arith in
      ap (λ (k : ℕ). slice_get xs k) none
  got_of_drop [] (suc s) i = refl
  got_of_drop (x ∷ xs) (suc s) i =
      let one : suc (s + i) ≡ suc s + i = omega arith in
      got_of_drop xs s i ∙ ap (λ (k : ℕ). slice_get (x ∷ xs) k) one

-- in slots of their own there is one set in a slot
one_slot : (placed : List Slotted) → HaveOwnSlots placed → (p q : Slotted) → IsAmong placed p
    → IsAmong placed q → p.slot ≡ q.slot → p ≡ q
one_slot [] own p q first second same = absurd first
one_slot (x ∷ placed) own p q (inl d) (inl e) same = sym d ∙ e
one_slot (x ∷ placed) own p q (inl d) (inr second) same =
    absurd (in_all (λ (y : Slotted). x.slot ≢ y.slot) placed q own.0 second
    (ap (λ (y : Slotted). y.slot) d ∙ same))
one_slot (x ∷ placed) own p q (inr first) (inl e) same =
    absurd (in_all (λ (y : Slotted). x.slot ≢ y.slot) placed p own.0 first
    (ap (λ (y : Slotted). y.slot) e ∙ sym same))
one_slot (x
    ∷ placed) own p q (inr first) (inr second) same = one_slot placed own.1 p q first second same

-- the sets of each zone are in slots of their own, and have spellings
record AreKept (placed : List Slotted) : Type 0 where
  own : HaveOwnSlots placed
  rising : IsRising (sets_of placed)
  spelled : (p : Slotted) → IsAmong placed p → HasSpelling p.set

kept_in : (zones : List Zone) → AllByRecursion StandsAlone zones → (id : ℕ)
    → AreKept (placed_in zones id)
kept_in [] each id = record { own = tt; rising = tt; spelled = λ p there. absurd there }
kept_in (zone ∷ zones) each id = by (kept_in zones each.1 id) (zone.id == id)
  where
    by : AreKept (placed_in zones id) → (b : Bool)
        → AreKept (cond b zone.placed (placed_in zones id))
    by rest true = record {
      own = each.0.sets.own;
      rising = each.0.sets.rising;
      spelled = λ p there.
          let can = in_all (λ (q : Slotted). CanStand zone.apex q.set) zone.placed p each.0.each there in
          can.spelled;
    }
    by rest false = rest

-- the set that the reference of a member names stands at the member's place
pub record IsNamed (zones : List Zone) (g : Group) (i : ℕ) (ref : SetRef) : Type 0 where
  pub set : RecordSet
  pub names : RefersTo zones ref set
  pub at : slice_get (sets_in zones g) i ≡ Some set

placed_at : (zones : List Zone) (g : Group) (i : ℕ) (p : Slotted) → i < g.length
    → slice_get (placed_in zones g.zone) (g.start + i) ≡ Some p → slice_get (members_of zones g) i
    ≡ Some p
placed_at zones g i p within e =
    got_of_take (drop g.start (placed_in zones g.zone)) g.length i within
    ∙ got_of_drop (placed_in zones g.zone) g.start i ∙ e

pub named : (zones : List Zone) (g : Group) (i : ℕ) (ref : SetRef) → IsSetOfGroup zones g i ref
    → i < g.length → IsNamed zones g i ref
named zones g i ref member within =
    let p : Slotted = record { slot = ref.slot; set = member.slot.0 } in
    let here = placed_at zones g i p within member.slot.1 in
    record {
      set = member.slot.0;
      names = subst (λ (z : ℕ). IsAmong (placed_in zones z) p) (sym member.zone)
          (among_at (placed_in zones g.zone) (g.start + i) p member.slot.1);
      at = slice_get-map (λ (q : Slotted). q.set) (members_of zones g) i
          ∙ ap (option_map (λ (q : Slotted). q.set)) here;
    }

-- a reference names one set
pub one_named : (zones : List Zone) (ref : SetRef) (set other : RecordSet) → AreZones zones
    → RefersTo zones ref set → RefersTo zones ref other → set ≡ other
one_named zones ref set other are first second =
    ap (λ (p : Slotted). p.set)
    (one_slot (placed_in zones ref.zone) (kept_in zones are.each ref.zone).own
    (record { slot = ref.slot; set = set })
    (record { slot = ref.slot; set = other }) first second refl)

pub spelled : (zones : List Zone) (ref : SetRef) (set : RecordSet) → AreZones zones
    → RefersTo zones ref set → HasSpelling set
spelled zones ref set are names =
    (kept_in zones are.each ref.zone).spelled (record { slot = ref.slot; set = set }) names

-- ---- a view as a test of keys

module _ {X : Type 0} (test : X → Bool) where
  -- where one passes, one that passes is found
  record IsFound (xs : List X) : Type 0 where
    one : X
    is : find test xs ≡ Some one
    there : IsAmong xs one
    passes : test one ≡ true

  found_first : (x : X) (xs : List X) (b : Bool) → test x ≡ b → (b ≡ false → IsFound xs)
      → (y : X) × (cond b (Some x) (find test xs) ≡ Some y) × IsAmong (x ∷ xs) y × (test y ≡ true)
  found_first x xs true e rest = (x, refl, inl refl, e)
  found_first x xs false e rest = let r = rest refl in (r.one, r.is, inr r.there, r.passes)

  found : (xs : List X) (x : X) → IsAmong xs x → test x ≡ true → IsFound xs
  found [] x there passes = absurd there
  found (y ∷ xs) x (inl e) passes =
      let same : test y ≡ true = ap test e ∙ passes in
      let r = found_first y xs (test y) refl (λ fails. absurd (grind (arith, same, fails))) in
      record { one = r.0; is = r.1; there = r.2; passes = r.3 }
  found (y ∷ xs) x (inr there) passes =
      let r = found_first y xs (test y) refl (λ fails. found xs x there passes) in
      record { one = r.0; is = r.1; there = r.2; passes = r.3 }

is_tie : (o : Ordering) → is_eq o ≡ true → o ≡ Equal
is_tie Less e = absurd (grind (arith, e))
is_tie Equal e = refl
is_tie Greater e = absurd (grind (arith, e))

-- the set of a key is found by it
by_its_key : (placed : List Slotted) → IsRising (sets_of placed) → (p : Slotted) → IsAmong placed p
    → find (λ (q : Slotted). is_eq (key_cmp (key_of q.set) (key_of p.set))) placed ≡ Some p
by_its_key placed rising p there =
    let test = λ (q : Slotted). is_eq (key_cmp (key_of q.set) (key_of p.set)) in
    let r = found test placed p there (ap is_eq (tied_itself keys_total (key_of p.set))) in
    let same = keys_tie (key_of r.one.set) (key_of p.set)
    (is_tie (key_cmp (key_of r.one.set) (key_of p.set)) r.passes) in
    r.is ∙ ap Some (one_of_key placed rising r.one p r.there there same)

pub views_agree : ViewsAgree
views_agree zones view are set named names =
    ap (said_of view set.zone)
    (sym (by_its_key (placed_in zones set.zone) (kept_in zones are.each set.zone).rising
    (record { slot = set.slot; set = named }) names))
