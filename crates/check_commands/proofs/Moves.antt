-- Which sets an edit leaves in their slots, by the references that it tells.
use Rattle.std.proofs.Common.{◌≡◌, ◌≢◌, ℕ, zero, suc, List, [], ◌∷◌, map, ap, sym, ◌∙◌, refl, subst, arith, inl, inr, Some}
use Rattle.std.specs.Prelude.{◌⊎◌, ◌↔◌, slice_get, option_map}
use Rattle.std.proofs.lemmas.Bool.{cases_eq}
use Rattle.std.proofs.lemmas.Option.{slice_get-map, slice_get_within}
use Rattle.config_zones.proofs.Holding.{kept_in}
use Rattle.config_zones.proofs.Listing.{its_placed, none_placed}
use Rattle.config_zones.proofs.MembersOfZoneList.{filled, one_of_key}
use Rattle.config_zones.specs.Changes.{Changes, ref_in}
use Rattle.config_zones.specs.DeltaRecord.{Delta}
use Rattle.config_zones.specs.Edits.{Edits, IsAllowed, zone_of}
use Rattle.config_zones.specs.SetRefRecord.{SetRef}
use Rattle.config_zones.specs.ZoneEditRecord.{ZoneEdit}
use Rattle.config_zones.specs.ZoneEditRecord.TheVariants as edit
use Rattle.config_zones.specs.Zones.{AreZones, Zone, placed_in}
use Rattle.record_set.specs.Sets.{key_of}
use Rattle.record_set.specs.declared.sets.RecordSet.{RecordSet}
use Rattle.record_set.specs.declared.sets.SetKey.{SetKey}
use Rattle.zone_model.proofs.Among.{place_of}
use Rattle.zone_model.specs.Slotted.{IsHere, Slotted, sets_of}
use Rattle.zone_model.specs.Zones.{IsRising}
use Rattle.check_commands.specs.Uses.{IsOneOf, slot_of}
use Rattle.check_commands.proofs.Looked.{its_zone}

some_same : {X : Type 0} {x y : X} → Some x ≡ Some y → x ≡ y
some_same e = cc

-- ---- slots of references

abbrev pub slots : List SetRef → List ℕ
slots refs = map slot_of refs

at_slot : (refs : List SetRef) (i : ℕ) (ref : SetRef) → slice_get refs i ≡ Some ref
    → slice_get (slots refs) i ≡ Some ref.slot
at_slot refs i ref at = slice_get-map slot_of refs i ∙ ap (option_map slot_of) at

of_slot : (refs : List SetRef) (slot i : ℕ) → slice_get (slots refs) i ≡ Some slot
    → (ref : SetRef) × (slice_get refs i ≡ Some ref) × (ref.slot ≡ slot)
of_slot [] slot i at = absurd (grind (arith, at))
of_slot (ref ∷ refs) slot zero at = (ref, refl, some_same at)
of_slot (ref ∷ refs) slot (suc i) at = of_slot refs slot i at

pub one_or_not : (xs : List ℕ) (n : ℕ) → IsOneOf xs n ⊎ (IsOneOf xs n → ⊥)
one_or_not [] n = inr (λ told. let at = told.1 in absurd (grind (arith, at)))
one_or_not (m ∷ xs) n = elim (cases_eq m n) [
  | inl same ↦ inl (0, ap Some same)
  | inr apart ↦ elim (one_or_not xs n) [
    | inl found ↦ inl (suc found.0, found.1)
    | inr none ↦ inr (λ told. behind told.0 told.1 apart none)
  ]
]
  where
    behind : (i : ℕ) → slice_get (m ∷ xs) i ≡ Some n → m ≢ n → (IsOneOf xs n → ⊥) → ⊥
    behind zero at apart none = apart (some_same at)
    behind (suc i) at apart none = none (i, at)

got_of_all : (zone : ℕ) (placed : List Slotted) (i : ℕ) (ref : SetRef)
    → slice_get (map (ref_in zone) placed) i ≡ Some ref
    → (p : Slotted) × IsHere placed p × (ref_in zone p ≡ ref)
got_of_all zone [] i ref at = absurd (grind (arith, at))
got_of_all zone (q ∷ placed) zero ref at = (q, inl refl, some_same at)
got_of_all zone (q ∷ placed) (suc i) ref at =
    let r = got_of_all zone placed i ref at in (r.0, inr r.1, r.2)

-- ---- sets of one zone

-- Each set was there, or its slot is told; and what is told are slots of sets that were there, and
-- of sets that are.
pub record Moves (was now : List Slotted) (went came : List ℕ) : Type 0 where
  pub from : (p : Slotted) → IsHere now p → IsHere was p ⊎ IsOneOf came p.slot
  pub to : (p : Slotted) → IsHere was p → IsHere now p ⊎ IsOneOf went p.slot
  pub gone : (slot : ℕ) → IsOneOf went slot → (p : Slotted) × IsHere was p × (p.slot ≡ slot)
  pub come : (slot : ℕ) → IsOneOf came slot → (p : Slotted) × IsHere now p × (p.slot ≡ slot)

none_told : (refs : List SetRef) (slot : ℕ) → refs ≡ [] → IsOneOf (slots refs) slot → ⊥
none_told [] slot none told = let at = told.1 in absurd (grind (arith, at))
none_told (ref ∷ refs) slot none told = absurd (grind (arith, none))

changed : (zone : ℕ) (was : List Slotted) (remove : List SetKey) (add : List RecordSet)
    (removed added : List SetRef) (now : List Slotted) → IsRising (sets_of was)
    → Changes zone was remove add removed added now → Moves was now (slots removed) (slots added)
changed zone was remove add removed added now rising changes = record {
  from = λ p here. elim (changes.only p here) [
    | inl old ↦ inl old.0
    | inr new ↦ inr (new.0, at_slot added new.0 (ref_in zone p) new.2)
  ];
  to = λ p here. elim (one_or_not (slots removed) p.slot) [
    | inl told ↦ inr told
    | inr none ↦ inl (changes.stays p here (λ m.
        let k = place_of remove (key_of p.set) m in
        let g = changes.goes k.0 (key_of p.set) k.1 in
        let one = one_of_key was rising g.0 p g.1 here g.2 in
        none (k.0, at_slot removed k.0 (ref_in zone g.0) g.3 ∙ ap (λ (q : Slotted). Some q.slot) one)))
  ];
  gone = λ slot told.
      let r = of_slot removed slot told.0 told.1 in
      let within = slice_get_within removed told.0 r.0 r.1 in
      let many = changes.as_many_removed in
      let key = filled remove told.0 (omega (arith, within, many)) in
      let g = changes.goes told.0 key.0 key.1 in
      (g.0, g.1, ap slot_of (some_same (sym g.3 ∙ r.1)) ∙ r.2);
  come = λ slot told.
      let r = of_slot added slot told.0 told.1 in
      let within = slice_get_within added told.0 r.0 r.1 in
      let many = changes.as_many_added in
      let set = filled add told.0 (omega (arith, within, many)) in
      let c = changes.comes told.0 set.0 set.1 in
      (record { slot = c.0; set = set.0 }, c.2, ap slot_of (some_same (sym c.1 ∙ r.1)) ∙ r.2);
}

closed : (zone : ℕ) (was now : List Slotted) (removed added : List SetRef) → now ≡ []
    → removed ≡ map (ref_in zone) was → added ≡ [] → Moves was now (slots removed) (slots added)
closed zone was now removed added none all no_more = record {
  from = λ p here. absurd (subst (λ (l : List Slotted). IsHere l p) none here);
  to = λ p here.
      let k = place_of was p here in
      inr (
        k.0,
        at_slot removed k.0 (ref_in zone p)
            (ap (λ (l : List SetRef). slice_get l k.0) all
            ∙ (slice_get-map (ref_in zone) was k.0 ∙ ap (option_map (ref_in zone)) k.1)),
      );
  gone = λ slot told.
      let r = of_slot removed slot told.0 told.1 in
      let g = got_of_all zone was told.0 r.0
      (subst (λ (l : List SetRef). slice_get l told.0 ≡ Some r.0) all r.1) in
      (g.0, g.1, ap slot_of g.2 ∙ r.2);
  come = λ slot told. absurd (none_told added slot no_more told);
}

-- ---- edits

module _ (before after : List Zone) (are : AreZones before) (delta : Delta) where
  pub moves : (made : ZoneEdit) → IsAllowed before made → Edits before made after delta
      → Moves (placed_in before (zone_of made)) (placed_in after (zone_of made))
      (slots delta.removed) (slots delta.added)
  moves (edit.Begin zone name sets) allowed edits =
      subst (λ (l : List Slotted). Moves l (placed_in after zone) (slots delta.removed) (slots delta.added))
      (sym (none_placed before zone allowed.0))
      (changed zone [] [] sets delta.removed delta.added (placed_in after zone) tt edits.its.1)
  moves (edit.End zone) allowed edits =
      closed zone (placed_in before zone) (placed_in after zone) delta.removed delta.added
      (none_placed after zone edits.its.0) edits.its.1 edits.its.2
  moves (edit.Change zone remove add) allowed edits =
      changed zone (placed_in before zone) remove add delta.removed delta.added
      (placed_in after zone) (kept_in before are.each zone).rising edits.its.1
  moves (edit.Collections now) allowed edits = record {
    from = λ p here. inl (subst (λ (zs : List Zone). IsHere (placed_in zs 0) p) edits.its.0 here);
    to = λ p here.
        inl (subst (λ (zs : List Zone). IsHere (placed_in zs 0) p) (sym edits.its.0) here);
    gone = λ slot told. absurd (none_told delta.removed slot edits.its.1 told);
    come = λ slot told. absurd (none_told delta.added slot edits.its.2 told);
  }

  -- in another zone all is as it was
  pub elsewhere : (made : ZoneEdit) → Edits before made after delta → AreZones after → (zone : ℕ)
      → zone ≢ zone_of made → (p : Slotted)
      → IsHere (placed_in before zone) p ↔ IsHere (placed_in after zone) p
  elsewhere made edits are_after zone apart p = (
    λ here.
        let z = its_zone before zone p here in
        let there = (edits.others z.0 (λ e. apart (sym z.2 ∙ e))).0 z.1 in
        subst (λ (id : ℕ). IsHere (placed_in after id) p) z.2
        (subst (λ (l : List Slotted). IsHere l p) (sym (its_placed after are_after.listed z.0 there)) z.3),
    λ here.
        let z = its_zone after zone p here in
        let there = (edits.others z.0 (λ e. apart (sym z.2 ∙ e))).1 z.1 in
        subst (λ (id : ℕ). IsHere (placed_in before id) p) z.2
        (subst (λ (l : List Slotted). IsHere l p) (sym (its_placed before are.listed z.0 there)) z.3),
  )
