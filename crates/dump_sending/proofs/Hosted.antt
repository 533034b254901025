-- The lines of zones, passed on from one number to the next.
use Rattle.std.proofs.Common.{◌≡◌, ℕ, List, ◌++◌, Option, None, Some, ap, subst, sym, ◌∙◌}
use Rattle.config_zones.specs.Edited.{hosted_in}
use Rattle.config_zones.specs.Laws.{ZonesFollow}
use Rattle.config_zones.specs.Walks.{above}
use Rattle.dump_sending.specs.Dumps.{hosted_text, zones_text}
use Rattle.record_set.specs.declared.sets.RecordSet.{RecordSet}
use Rattle.set_octets.specs.Octets.{AreOfType, HasSpelling}
use Rattle.set_sending.proofs.Passed.{first_next}
use Rattle.set_sending.specs.Passing.{IsPassed}
use Rattle.std.proofs.lemmas.Option.{same_Some}
use Rattle.config_zones.proofs.Listing.{its_placed, one_zone}
use Rattle.config_zones.specs.Found.{IsNextZone, NextZoneOrNone}
use Rattle.config_zones.specs.Zones.{AreListed, AreZones, IsOne, Zone, hosted, placed_in}
use Rattle.zone_model.specs.Hosted.{HostedZone}
use Rattle.zone_model.specs.Slotted.{Slotted, sets_of}
use Rattle.config_zones.specs.Looking.{IsApex}

-- the zone of a number and a name, with the sets of the number
abbrev pub seen : List Zone → (id : ℕ) (apex : List (List ℕ)) → HostedZone
seen zones id apex = record { id = id; apex = apex; sets = sets_of (placed_in zones id) }

seen_as : (zones : List Zone) → AreListed zones → (x : Zone) → IsOne zones x
    → (id : ℕ) (apex : List (List ℕ)) → x.id ≡ id → x.apex ≡ apex → hosted x ≡ seen zones id apex
seen_as zones listed x there id apex its_id its_apex =
    ap (λ (n : ℕ). record { id = n; apex = x.apex; sets = sets_of x.placed }) its_id
    ∙ (ap (λ (a : List (List ℕ)). record { id = id; apex = a; sets = sets_of x.placed }) its_apex
    ∙ ap (λ (ps : List Slotted). record { id = id; apex = apex; sets = sets_of ps })
    (sym (its_placed zones listed x there) ∙ ap (placed_in zones) its_id))

module _ (zones : List Zone) (follow : ZonesFollow) (are : AreZones zones) (held : List ℕ)
    (sink : Option (List ℕ)) (buffer rest text : List ℕ) where
  abbrev Left : List Zone → Type 0
  Left zs = IsPassed held sink buffer (zones_text (hosted_in zs) ++ rest) text

  -- all numbers are above 0
  pub at_first : Left zones → Left (above zones 0)
  at_first passed = subst Left (sym (follow.all zones are)) passed

  -- the zone of the next number is the next one
  pub next_zone : (last next : ℕ) (apex : List (List ℕ)) → IsNextZone zones last next
      → IsApex zones next apex → Left (above zones last)
      → IsPassed held sink buffer (hosted_text (seen zones next apex)
      ++ (zones_text (hosted_in (above zones next)) ++ rest)) text
  next_zone last next apex is named passed =
      let its = follow.next zones last next are is in
      let same = one_zone zones are.listed its.0 named.0 its.1 named.1 (its.2 ∙ sym named.2) in
      let looks = seen_as zones are.listed its.0 its.1 next apex its.2
      (ap (λ (z : Zone). z.apex) same ∙ named.3) in
      let later = zones_text (hosted_in (above zones next)) in
      first_next held sink buffer (zones_text (hosted_in (above zones last)))
      (hosted_text (seen zones next apex)) later rest text
      (ap (λ (zs : List Zone). zones_text (hosted_in zs)) its.3
      ∙ ap (λ (zone : HostedZone). hosted_text zone ++ later) looks) passed

  -- behind the last number the rest is next
  pub all_zones : (last : ℕ) → NextZoneOrNone zones last None → Left (above zones last)
      → IsPassed held sink buffer rest text
  all_zones last none passed = subst Left (follow.none zones last none) passed

-- the values of what is held are of its type
pub held_type : (held : Option RecordSet) (set other : RecordSet) → held ≡ Some set
    → held ≡ Some other → HasSpelling other → AreOfType set.rtype set.body
held_type held set other is is_other spelled =
    let same : other ≡ set = same_Some other set (sym is_other ∙ is) in
    (subst HasSpelling same spelled).of_type
