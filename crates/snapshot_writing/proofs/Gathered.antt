-- Sets and zones appended one after another.
use Rattle.std.proofs.Common.{◌≡◌, ℕ, ◌+◌, ◌≤◌, Bool, true, false, List, [], ◌∷◌, ◌++◌, length, drop, ap, ◌∙◌, sym}
use Rattle.std.proofs.Common.{arith, cond, None, Some}
use Rattle.std.specs.Prelude.{◌==◌, slice_get}
use Rattle.std.specs.List.{flat_map}
use Rattle.std.proofs.lemmas.List.{append_assoc, append-nil}
use Rattle.std.proofs.lemmas.List.Sums.{sum_by-cons}
use Rattle.config_zones.specs.Edited.{hosted_in}
use Rattle.config_zones.specs.Laws.{ZonesFollow}
use Rattle.config_zones.specs.Walks.{above}
use Rattle.record_set.specs.declared.sets.RecordSet.{RecordSet}
use Rattle.config_zones.specs.Octets.{set_octets}
use Rattle.snapshot_octets.specs.Octets.{zone_octets}
use Rattle.config_zones.proofs.Listing.{its_placed, one_zone}
use Rattle.config_zones.proofs.MembersOfZoneList.{left_at, nothing_left}
use Rattle.config_zones.specs.Found.{IsNextZone, NextZoneOrNone}
use Rattle.config_zones.specs.Zones.{AreListed, AreZones, IsOne, Zone, hosted, placed_in}
use Rattle.zone_model.specs.Hosted.{HostedZone}
use Rattle.zone_model.specs.Slotted.{Slotted, sets_of}
use Rattle.config_zones.specs.Counted.{sets_in_all}
use Rattle.config_zones.specs.Looking.{IsApex}

-- ---- the sets of a zone

-- with what is left, what was appended is all
abbrev pub AreAppended : (before : List ℕ) → (sets : List RecordSet) → (i : ℕ) → (now : List ℕ)
    → Type 0
AreAppended before sets i now =
    now ++ flat_map set_octets (drop i sets) ≡ before ++ flat_map set_octets sets

module _ (before : List ℕ) (sets : List RecordSet) (i : ℕ) (old : List ℕ)
    (appended : AreAppended before sets i old) where
  pub one_more : (set : RecordSet) → slice_get sets i ≡ Some set → (now : List ℕ)
      → now ≡ old ++ set_octets set → AreAppended before sets (i + 1) now
  one_more set at now is =
      ap (λ (t : List ℕ). t ++ flat_map set_octets (drop (i + 1) sets)) is
      ∙ (append_assoc old (set_octets set) (flat_map set_octets (drop (i + 1) sets))
      ∙ (ap (λ (xs : List RecordSet). old ++ flat_map set_octets xs) (sym (left_at sets i set at))
      ∙ appended))

  pub all_appended : length sets ≤ i → old ≡ before ++ flat_map set_octets sets
  all_appended le =
      sym (append-nil old)
      ∙ (ap (λ (xs : List RecordSet). old ++ flat_map set_octets xs) (sym (nothing_left sets i le))
      ∙ appended)

-- ---- the zones

abbrev pub AreAppendedTo : (before : List ℕ) → List Zone → (last : ℕ) → (now : List ℕ) → Type 0
AreAppendedTo before zones last now =
    now ++ flat_map zone_octets (hosted_in (above zones last))
    ≡ before ++ flat_map zone_octets (hosted_in zones)

-- a zone of a number and a name, with the sets of the number
seen_as : (zones : List Zone) → AreListed zones → (x : Zone) → IsOne zones x
    → (id : ℕ) (name : List (List ℕ)) → x.id ≡ id → x.apex ≡ name
    → hosted x ≡ record { id = id; apex = name; sets = sets_of (placed_in zones id) }
seen_as zones listed x there id name its_id its_apex =
    ap (λ (n : ℕ). record { id = n; apex = x.apex; sets = sets_of x.placed }) its_id
    ∙ (ap (λ (a : List (List ℕ)). record { id = id; apex = a; sets = sets_of x.placed }) its_apex
    ∙ ap (λ (ps : List Slotted). record { id = id; apex = name; sets = sets_of ps })
    (sym (its_placed zones listed x there) ∙ ap (placed_in zones) its_id))

module _ (before : List ℕ) (zones : List Zone) (follow : ZonesFollow) (are : AreZones zones) where
  pub at_first : AreAppendedTo before zones 0 before
  at_first = ap (λ (zs : List Zone). before ++ flat_map zone_octets (hosted_in zs))
      (follow.all zones are)

  module _ (last : ℕ) (old : List ℕ) (appended : AreAppendedTo before zones last old) where
    pub zone_more : (next : ℕ) → IsNextZone zones last next → (apex : List (List ℕ))
        → IsApex zones next apex → (now : List ℕ)
        → now ≡ old ++ zone_octets (record {
          id = next;
          apex = apex;
          sets = sets_of (placed_in zones next);
        })
        → AreAppendedTo before zones next now
    zone_more next is apex named now e =
        let its = follow.next zones last next are is in
        let same = one_zone zones are.listed its.0 named.0 its.1 named.1
        (its.2 ∙ sym named.2) in
        let seen = seen_as zones are.listed its.0 its.1 next apex its.2
        (ap (λ (z : Zone). z.apex) same ∙ named.3) in
        let one = zone_octets (record {
          id = next;
          apex = apex;
          sets = sets_of (placed_in zones next);
        }) in
        let rest = flat_map zone_octets (hosted_in (above zones next)) in
        ap (λ (t : List ℕ). t ++ rest) e
        ∙ (append_assoc old one rest
        ∙ (ap (λ (zone : HostedZone). old ++ (zone_octets zone ++ rest)) (sym seen)
        ∙ (ap (λ (zs : List Zone). old ++ flat_map zone_octets (hosted_in zs)) (sym its.3)
        ∙ appended)))

    pub all_zones : NextZoneOrNone zones last None
        → old ≡ before ++ flat_map zone_octets (hosted_in zones)
    all_zones none =
        sym (append-nil old)
        ∙ (ap (λ (zs : List Zone). old ++ flat_map zone_octets (hosted_in zs))
        (sym (follow.none zones last none))
        ∙ appended)

-- ---- how many sets a zone has

few_more : (zone : Zone) (others : List Slotted) (all : ℕ) → length others ≤ all → (b : Bool)
    → length (cond b zone.placed others) ≤ length zone.placed + all
few_more zone others all few true = omega arith
few_more zone others all few false = omega (arith, few)

pub few_placed : (zones : List Zone) (id : ℕ) → length (placed_in zones id) ≤ sets_in_all zones
few_placed [] id = omega arith
few_placed (zone ∷ zones) id =
    let more : length (placed_in (zone ∷ zones) id) ≤ length zone.placed + sets_in_all zones =
    few_more zone (placed_in zones id) (sets_in_all zones) (few_placed zones id) (zone.id == id) in
    let sum = sum_by-cons (λ (z : Zone). length z.placed) zone zones in
    omega (arith, more, sum)
