-- The set that a reference to a place names.
use Rattle.std.proofs.Common.{◌≡◌, ◌≢◌, ℕ, Bool, true, false, List, [], ◌∷◌, Some, refl, sym, ap}
use Rattle.std.proofs.Common.{◌∙◌, subst, inl, inr, cond}
use Rattle.std.specs.Prelude.{Option, slice_get, ◌==◌}
use Rattle.std.specs.List.{AllByRecursion}
use Rattle.std.specs.Option.{option_map}
use Rattle.std.proofs.lemmas.Option.{slice_get-map}
use Rattle.zone_list.specs.RecordSetRecord.{RecordSet}
use Rattle.zone_list.specs.Octets.{HasSpelling}
use Rattle.zone_list.proofs.Members.{in_all}
use Rattle.zone_list.specs.Zones.{AreZones, CanStand, StandsAlone, Zone, placed_in}
use Rattle.zone_list.specs.declared.refs.SetRef.{SetRef}
use Rattle.zone_list.proofs.Among.{among_at}
use Rattle.zone_list.specs.Slotted.{HaveOwnSlots, IsSlotAt, Slotted, sets_of}
use Rattle.zone_list.specs.Sets.{IsAmong, IsRising}
use Rattle.zone_finding.specs.Looking.{RefersTo}

-- in slots of their own there is one set in a slot
one_slot : (placed : List Slotted) → HaveOwnSlots placed → (p q : Slotted) → IsAmong placed p
    → IsAmong placed q → p.slot ≡ q.slot → p ≡ q
one_slot [] own p q first second same = absurd first
one_slot (x ∷ placed) own p q (inl d) (inl e) same = sym d ∙ e
one_slot (x ∷ placed) own p q (inl d) (inr second) same =
    absurd (in_all (λ (y : Slotted). x.slot ≢ y.slot) placed q own.0 second
    (ap (λ (y : Slotted). y.slot) d ∙ same))
one_slot (x ∷ placed) own p q (inr first) (inl e) same =
    absurd (in_all (λ (y : Slotted). x.slot ≢ y.slot) placed p own.0 first
    (ap (λ (y : Slotted). y.slot) e ∙ sym same))
one_slot (x ∷ placed) own p q (inr first) (inr second) same =
    one_slot placed own.1 p q first second same

-- the sets of each zone are in slots of their own and in zone order, and have spellings
pub record AreKept (placed : List Slotted) : Type 0 where
  pub own : HaveOwnSlots placed
  pub rising : IsRising (sets_of placed)
  pub spelled : (p : Slotted) → IsAmong placed p → HasSpelling p.set

pub kept_in : (zones : List Zone) → AllByRecursion StandsAlone zones → (id : ℕ)
    → AreKept (placed_in zones id)
kept_in [] each id = record { own = tt; rising = tt; spelled = λ p there. absurd there }
kept_in (zone ∷ zones) each id = by (kept_in zones each.1 id) (zone.id == id)
  where
    by : AreKept (placed_in zones id) → (b : Bool)
        → AreKept (cond b zone.placed (placed_in zones id))
    by rest true = record {
      own = each.0.sets.own;
      rising = each.0.sets.rising;
      spelled = λ p there.
          let can = in_all (λ (q : Slotted). CanStand zone.apex q.set) zone.placed p each.0.each
          there in
          can.spelled;
    }
    by rest false = rest

module _ (zones : List Zone) (are : AreZones zones) (id place : ℕ) (ref : SetRef) (same : ref.zone
    ≡ id)
    (at : IsSlotAt (placed_in zones id) place ref.slot) where
  -- what stands at the place
  abbrev it : Slotted
  it = record { slot = ref.slot; set = at.0 }

  it_is_there : IsAmong (placed_in zones id) it
  it_is_there = among_at (placed_in zones id) place it at.1

  pub named : RefersTo zones ref at.0
  named = subst (λ z. IsAmong (placed_in zones z) it) (sym same) it_is_there

  pub held_there : (held : Option RecordSet)
      → ((other : RecordSet) × RefersTo zones ref other × (held ≡ Some other))
      → (set : RecordSet) × (slice_get (sets_of (placed_in zones id)) place ≡ Some set)
      × (held ≡ Some set) × HasSpelling set
  held_there held (other, names, is) =
      let kept = kept_in zones are.each id in
      let here : IsAmong (placed_in zones id) (record { slot = ref.slot; set = other }) =
      subst (λ z. IsAmong (placed_in zones z) (record { slot = ref.slot; set = other })) same names
      in
      let one : it ≡ record { slot = ref.slot; set = other } =
      one_slot (placed_in zones id) kept.own it (record { slot = ref.slot; set = other })
      it_is_there
      here refl in (
        at.0,
        slice_get-map (λ (p : Slotted). p.set) (placed_in zones id) place
            ∙ ap (option_map (λ (p : Slotted). p.set)) at.1,
        is ∙ ap (λ (p : Slotted). Some p.set) (sym one),
        kept.spelled it it_is_there,
      )
