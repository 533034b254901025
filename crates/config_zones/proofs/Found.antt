-- Zones found by number and by name.
use Rattle.std.proofs.Common.{◌≡◌, ℕ, ◌<◌, Bool, true, false, cond, List, [], ◌∷◌, ap, ◌∙◌, sym, refl}
use Rattle.std.proofs.Common.{subst, arith, inl, inr, Option, None, Some}
use Rattle.std.specs.Prelude.{◌⊎◌, ◌≢◌, ◌==◌}
use Rattle.std.proofs.lemmas.Bool.{eq-eqb, eqb-true, false≢true}
use Rattle.config_edits.specs.Laws.{hosted_in}
use Rattle.config_edits.proofs.MembersOfConfigModel.{any_from, any_of}
use Rattle.config_edits.specs.Configs.{zone_with}
use Rattle.config_edits.specs.NewZones.{has_zone}
use Rattle.config_zones.specs.Laws.{ZonesAreFound}
use Rattle.dns_name.specs.Order.{same_labels}
use Rattle.dns_name.specs.OrderLaws.{same_labels-Decides}
use Rattle.config_edits.proofs.Listing.{its_placed}
use Rattle.config_edits.proofs.Members.{in_all}
use Rattle.config_edits.specs.Zones.{AreListed, AreZones, HasName, IsOne, IsZoneId, Zone, hosted}
use Rattle.config_edits.specs.Zones.{placed_in}
use Rattle.config_edits.specs.Hosted.{HostedZone}
use Rattle.config_edits.specs.Slotted.{Slotted, sets_of}
use Rattle.config_edits.specs.ZonesOfZoneModel.{IsAmong}
use Rattle.config_edits.specs.Looking.{IsApex}

-- ---- by number

not_equal : (a b : ℕ) (t : Bool) → (a == b) ≡ t → a ≢ b → (a == b) ≡ false
not_equal a b false e other = e
not_equal a b true e other = absurd (other (eqb-true a b e))

other_id : (zone : Zone) (zones : List Zone) (id : ℕ) → zone.id ≢ id
    → zone_with (hosted_in (zone ∷ zones)) id ≡ zone_with (hosted_in zones) id
other_id zone zones id other =
    ap (λ b. cond b (Some (hosted zone)) (zone_with (hosted_in zones) id))
    (not_equal zone.id id (zone.id == id) refl other)

its_id : (zone : Zone) (zones : List Zone) (id : ℕ) → zone.id ≡ id
    → zone_with (hosted_in (zone ∷ zones)) id ≡ Some (hosted zone)
its_id zone zones id same =
    ap (λ b. cond b (Some (hosted zone)) (zone_with (hosted_in zones) id))
    (eq-eqb zone.id id same)

at_number : (zones : List Zone) (zone : Zone) → AreListed zones → IsOne zones zone
    → zone_with (hosted_in zones) zone.id ≡ Some (hosted zone)
at_number [] zone listed there = absurd there
at_number (first ∷ zones) zone listed (inl e) =
    its_id first zones zone.id (ap (λ (z : Zone). z.id) e)
    ∙ ap (λ (z : Zone). Some (hosted z)) e
at_number (first ∷ zones) zone listed (inr there) =
    let h = in_all (λ (other : Zone). (first.id < other.id) × (first.apex ≢ other.apex)) zones zone
    listed.0 there in
    let lower = h.0 in
    other_id first zones zone.id (λ same. (let e = same in omega (arith, lower, e)))
    ∙ at_number zones zone listed.1 there

no_number : (zones : List Zone) (id : ℕ) → (IsZoneId zones id → ⊥)
    → zone_with (hosted_in zones) id ≡ None
no_number [] id none = refl
no_number (zone ∷ zones) id none =
    other_id zone zones id (λ same. none (zone, inl refl, same))
    ∙ no_number zones id (λ has. none (has.0, inr has.1, has.2))

-- the zone of a number and a name has the sets of the number
seen_as : (zones : List Zone) → AreListed zones → (x : Zone) → IsOne zones x
    → (id : ℕ) (name : List (List ℕ)) → x.id ≡ id → x.apex ≡ name
    → hosted x ≡ record { id = id; apex = name; sets = sets_of (placed_in zones id) }
seen_as zones listed x there id name its_id its_apex =
    ap (λ (n : ℕ). record { id = n; apex = x.apex; sets = sets_of x.placed }) its_id
    ∙ (ap (λ (a : List (List ℕ)). record { id = id; apex = a; sets = sets_of x.placed }) its_apex
    ∙ ap (λ (ps : List Slotted). record { id = id; apex = name; sets = sets_of ps })
    (sym (its_placed zones listed x there) ∙ ap (placed_in zones) its_id))

numbered : (zones : List Zone) (id : ℕ) (apex : List (List ℕ)) → AreZones zones
    → IsApex zones id apex
    → zone_with (hosted_in zones) id
    ≡ Some (record { id = id; apex = apex; sets = sets_of (placed_in zones id) })
numbered zones id apex are (zone, there, its_id, its_apex) =
    ap (zone_with (hosted_in zones)) (sym its_id)
    ∙ (at_number zones zone are.listed there
    ∙ ap Some (seen_as zones are.listed zone there id apex its_id its_apex))

-- ---- by name

pub in_hosted : (zones : List Zone) (zone : Zone) → IsOne zones zone
    → IsAmong (hosted_in zones) (hosted zone)
in_hosted [] zone there = absurd there
in_hosted (first ∷ zones) zone (inl e) = inl (ap hosted e)
in_hosted (first ∷ zones) zone (inr there) = inr (in_hosted zones zone there)

pub of_hosted : (zones : List Zone) (seen : HostedZone) → IsAmong (hosted_in zones) seen
    → (zone : Zone) × IsOne zones zone × (hosted zone ≡ seen)
of_hosted [] seen there = absurd there
of_hosted (zone ∷ zones) seen (inl e) = (zone, inl refl, e)
of_hosted (zone ∷ zones) seen (inr there) =
    let rest = of_hosted zones seen there in (rest.0, inr rest.1, rest.2)

module _ (zones : List Zone) (name : List (List ℕ)) where
  abbrev has_name : HostedZone → Bool
  has_name zone = same_labels zone.apex name

  named_of : has_zone (hosted_in zones) name ≡ true → HasName zones name
  named_of e =
      let seen = any_from has_name (hosted_in zones) e in
      let zone = of_hosted zones seen.0 seen.1 in (
        zone.0,
        zone.1,
        ap (λ (z : HostedZone). z.apex) zone.2
            ∙ (same_labels-Decides seen.0.apex name).0 seen.2,
      )

  of_named : HasName zones name → has_zone (hosted_in zones) name ≡ true
  of_named (zone, there, its_name) =
      any_of has_name (hosted_in zones) (hosted zone) (in_hosted zones zone there)
      ((same_labels-Decides zone.apex name).1 its_name)

pub are_found : ZonesAreFound
are_found = record {
  found = numbered;
  none = no_number;
  named = λ zones name. (named_of zones name, of_named zones name);
}
