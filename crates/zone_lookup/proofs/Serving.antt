-- Zones whose groups are few, looked at set by set and zone by zone.
use Rattle.std.proofs.Common.{◌≡◌, ◌≢◌, ◌≤◌, ℕ, List, [], Some, sym, ap, ◌∙◌, subst, inl, inr}
use Rattle.std.proofs.Common.{arith, length}
use Rattle.std.specs.Prelude.{slice_get}
use Rattle.std.specs.Option.{option_map}
use Rattle.std.proofs.lemmas.Bool.{cases_lt}
use Rattle.std.proofs.lemmas.List.{length-map}
use Rattle.std.proofs.lemmas.Option.{slice_get-map}
use Rattle.policy_select.specs.Groups.{FewInGroups, sets_in_zone}
use Rattle.policy_select.specs.RecordSetRecord.{RecordSet}
use Rattle.policy_select.proofs.Listing.{its_placed}
use Rattle.policy_select.proofs.MembersOfZoneList.{in_all}
use Rattle.policy_select.specs.Found.{IsNextZone}
use Rattle.policy_select.specs.Zones.{AreZones, IsOne, StandsAlone, Zone, placed_in}
use Rattle.policy_select.specs.SetRefRecord.{SetRef}
use Rattle.policy_select.proofs.Among.{among_at}
use Rattle.policy_select.specs.Slotted.{Slotted, sets_of}
use Rattle.policy_select.specs.ZonesOfZoneModel.{IsAmong}
use Rattle.policy_select.specs.Looking.{IsSetAt, RefersTo}
use Rattle.zone_lookup.specs.Served.{AreServed, CanAnswer}

-- the set that the reference of a place names stands there
pub record IsNamedAt (zones : List Zone) (id i : ℕ) (ref : SetRef) : Type 0 where
  pub set : RecordSet
  pub names : RefersTo zones ref set
  pub at : slice_get (sets_in_zone zones id) i ≡ Some set

pub named_at : (zones : List Zone) (id i : ℕ) (ref : SetRef) → IsSetAt zones id i (Some ref)
    → IsNamedAt zones id i ref
named_at zones id i ref (its_zone, (set, at)) =
    let p : Slotted = record { slot = ref.slot; set = set } in
    record {
      set = set;
      names = subst (λ (z : ℕ). IsAmong (placed_in zones z) p) (sym its_zone)
          (among_at (placed_in zones id) i p at);
      at = slice_get-map (λ (q : Slotted). q.set) (placed_in zones id) i
          ∙ ap (option_map (λ (q : Slotted). q.set)) at;
    }

-- the zone of a number has a set, and few in each group
abbrev pub CanBeAnswered : List Zone → (id : ℕ) → Type 0
CanBeAnswered zones id = (placed_in zones id ≢ []) × FewInGroups (sets_in_zone zones id)

-- the zones up to a number can be answered from
abbrev pub ServedTo : List Zone → (last : ℕ) → Type 0
ServedTo zones last = (zone : Zone) → IsOne zones zone → zone.id ≤ last → CanAnswer zone

module _ (zones : List Zone) (are : AreZones zones) where
  can_be : (zone : Zone) → IsOne zones zone → CanBeAnswered zones zone.id → CanAnswer zone
  can_be zone there can =
      let placed : placed_in zones zone.id ≡ zone.placed = its_placed zones are.listed zone there in
      record {
        some = subst (λ (ps : List Slotted). ps ≢ []) placed can.0;
        few = subst (λ (ps : List Slotted). FewInGroups (sets_of ps)) placed can.1;
      }

  was : (zone : Zone) → IsOne zones zone → CanAnswer zone → CanBeAnswered zones zone.id
  was zone there can =
      let placed : zone.placed ≡ placed_in zones zone.id =
      sym (its_placed zones are.listed zone there) in (
        subst (λ (ps : List Slotted). ps ≢ []) placed can.some,
        subst (λ (ps : List Slotted). FewInGroups (sets_of ps)) placed can.few,
      )

  -- no zone has number 0
  pub none_yet : ServedTo zones 0
  none_yet zone there within =
      let numbered = (in_all StandsAlone zones zone are.each there).numbered in
      absurd (omega (arith, numbered, within))

  pub one_more : (last next : ℕ) → IsNextZone zones last next → CanBeAnswered zones next
      → ServedTo zones last → ServedTo zones next
  one_more last next is can before zone there within = elim (cases_lt last zone.id) [
    | inl above ↦
        let least = is.least zone there above in
        let same : next ≡ zone.id = omega (arith, least, within) in
        can_be zone there (subst (CanBeAnswered zones) same can)
    | inr earlier ↦ before zone there (omega (arith, earlier))
  ]

  -- the zone of the next number can be answered from where all are served
  pub next_can : (last next : ℕ) → IsNextZone zones last next → AreServed zones
      → CanBeAnswered zones next
  next_can last next is served =
      let zone = is.there.0 in
      subst (CanBeAnswered zones) is.there.2
      (was zone is.there.1 (served.each zone is.there.1))

  pub all_served : (last : ℕ) → ServedTo zones last
      → ((zone : Zone) → IsOne zones zone → zone.id ≤ last) → AreServed zones
  all_served last before all = record { each = λ zone there. before zone there (all zone there) }

-- as many sets as sets with slots
pub as_many : (zones : List Zone) (id : ℕ)
    → length (sets_in_zone zones id) ≡ length (placed_in zones id)
as_many zones id = length-map (placed_in zones id) (λ (q : Slotted). q.set)
