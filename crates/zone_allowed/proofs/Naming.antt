-- A name that a zone has, told by the zone that holds it.
use Rattle.std.proofs.Common.{◌≡◌, ◌≤◌, ◌+◌, ℕ, List, [], ◌∷◌, ◌++◌, length, ap, sym, ◌∙◌, arith}
use Rattle.std.proofs.lemmas.List.{length-append}
use Rattle.dns_name.specs.Suffix.{EndsWith}
use Rattle.zone_table.proofs.Listing.{one_zone}
use Rattle.zone_table.specs.Zones.{AreZones, HasName, Zone}
use Rattle.zone_table.specs.Looking.{IsZoneFor, IsApex}

as_long : (first name other : List (List ℕ)) → name ≡ first ++ other → length name ≤ length other
    → other ≡ name
as_long [] name other e le = sym e
as_long (label ∷ first) name other e le =
    let n : length name ≡ length (label ∷ first) + length other =
    ap length e ∙ length-append (label ∷ first) other in
    absurd (omega (arith, n, le))

module _ (zones : List Zone) (are : AreZones zones) (name apex : List (List ℕ)) (id : ℕ)
    (holds : IsZoneFor zones name id) (at : IsApex zones id apex) where
  its : holds.zone.apex ≡ apex
  its =
      let same = one_zone zones are.listed holds.zone at.0 holds.there at.1
      (holds.its_id ∙ sym at.2) in
      ap (λ (z : Zone). z.apex) same ∙ at.3

  pub named : apex ≡ name → HasName zones name
  named same = (holds.zone, holds.there, its ∙ same)

  pub by_name : HasName zones name → apex ≡ name
  by_name (zone, there, same) =
      let above : EndsWith name zone.apex = ([], sym same) in
      let long = holds.longest zone there above in
      let size : length zone.apex ≡ length name = ap length same in
      sym its ∙ as_long holds.above.0 name holds.zone.apex holds.above.1 (omega (arith, long, size))
