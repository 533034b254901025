-- Names that zones have, and names that they may have.
use Rattle.std.proofs.Common.{◌≡◌, ◌≢◌, ℕ, suc, ◌+◌, ◌≤◌, true, false, List, [], ◌∷◌, ◌++◌, length, ap}
use Rattle.std.proofs.Common.{◌∙◌, sym, refl, subst, arith}
use Rattle.std.specs.Prelude.{Bool, IsTrue, ◌↔◌}
use Rattle.std.proofs.lemmas.Bool.{false≢true}
use Rattle.std.proofs.lemmas.List.{length-append}
use Rattle.config_zones.specs.Edited.{hosted_in}
use Rattle.config_zones.specs.NewZones.{has_zone}
use Rattle.config_zones.specs.Laws.{ZonesAreFound}
use Rattle.dns_name.specs.Suffix.{EndsWith}
use Rattle.config_zones.specs.Zones.{AreZones, HasName, IsOne, Zone}
use Rattle.config_zones.specs.LawsOfZoneTable.{OneApex}
use Rattle.config_zones.specs.Looking.{IsZoneFor, IsApex}

ends_with_itself : (name : List (List ℕ)) → EndsWith name name
ends_with_itself name = ([], refl)

same_name : (name apex : List (List ℕ)) → EndsWith name apex → length name ≤ length apex
    → name ≡ apex
same_name name apex (front, is) le =
    let size = ap length is ∙ length-append front apex in
    let none : front ≡ [] = by front (omega (arith, size, le)) in
    is ∙ ap (λ f. f ++ apex) none
  where
    by : (xs : List (List ℕ)) → length xs ≡ 0 → xs ≡ []
    by [] e = refl
    by (x ∷ xs) e = absurd (omega (arith, e))

module _ (zones : List Zone) (name : List (List ℕ)) where
  -- where the zone that holds the name has another, no zone has it
  pub other_name : (id : ℕ) → IsZoneFor zones name id → (apex : List (List ℕ))
      → IsApex zones id apex → OneApex → AreZones zones → apex ≢ name → HasName zones name → ⊥
  other_name id holds apex is one are other (zone, there, its_name) =
      let longest = holds.longest zone there
      (subst (λ n. EndsWith name n) (sym its_name) (ends_with_itself name)) in
      let size = ap length its_name in
      let same = same_name name holds.zone.apex holds.above (omega (arith, longest, size)) in
      other (one zones id apex holds.zone.apex are is
      (holds.zone, holds.there, holds.its_id, refl) ∙ sym same)

  pub none_holds : ((zone : Zone) → IsOne zones zone → EndsWith name zone.apex → ⊥)
      → HasName zones name → ⊥
  none_holds none (zone, there, its_name) =
      none zone there (subst (λ n. EndsWith name n) (sym its_name) (ends_with_itself name))

  pub has_it : (id : ℕ) (apex : List (List ℕ)) → IsApex zones id apex → apex ≡ name
      → HasName zones name
  has_it id apex (zone, there, its_id, its_apex) e = (zone, there, its_apex ∙ e)

  pub is_told : (id : ℕ) → IsZoneFor zones name id → (apex : List (List ℕ)) → IsApex zones id apex
      → OneApex → AreZones zones → ZonesAreFound → (b : Bool) → IsTrue b ↔ (apex ≡ name)
      → b ≡ has_zone (hosted_in zones) name
  is_told id holds apex is one are found true iff =
      sym ((found.named zones name).1 (has_it id apex is (iff.0 refl)))
  is_told id holds apex is one are found false iff = by (has_zone (hosted_in zones) name) refl
    where
      by : (b : Bool) → has_zone (hosted_in zones) name ≡ b
          → false ≡ has_zone (hosted_in zones) name
      by false e = sym e
      by true e =
          absurd (other_name id holds apex is one are (λ same. false≢true (iff.1 same))
          ((found.named zones name).0 e))
