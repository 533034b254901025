-- The source of a name's sets.
use Rattle.std.proofs.Common.{◌≡◌, ◌≢◌, ◌≤◌, ◌<◌, ℕ, Bool, true, false, List, [], ◌∷◌}
use Rattle.std.proofs.Common.{Some, None}
use Rattle.std.proofs.Common.{length, refl, sym, ap, ◌∙◌, subst, arith}
use Rattle.std.specs.Prelude.{IsTrue, ◌↔◌, ◌&&◌, cond}
use Rattle.std.specs.Bool.{Decides}
use Rattle.dns_name.specs.Labels.{wire}
use Rattle.dns_name.specs.Wildcard.{wildcard}
use Rattle.policy_select.specs.RecordSetRecord.{RecordSet}
use Rattle.policy_select.specs.Zones.{AreZones, Zone, placed_in}
use Rattle.policy_select.specs.Existing.{Exists, IsClosest}
use Rattle.policy_select.proofs.Looked.{apex_there}
use Rattle.policy_select.specs.Looking.{IsApex}
use Rattle.policy_select.specs.Laws.{EnclosersAreClosest, NamesExist}
use Rattle.policy_select.specs.Names.{closest, exists, fits, if_exists, source}
use Rattle.policy_select.specs.Groups.{sets_in_zone}
use Rattle.zone_lookup.proofs.Finding.{one_end}

-- what decides and what is told agree
told : (b said : Bool) (P : Type 0) → Decides b P → (IsTrue said ↔ P) → b ≡ said
told true true P decides says = refl
told true false P decides says = sym (says.1 (decides.0 refl))
told false true P decides says = decides.1 (says.0 refl)
told false false P decides says = refl

module _ (names : NamesExist) (sets : List RecordSet) where
  pub it_exists : (name : List (List ℕ)) (said : Bool) → (IsTrue said ↔ Exists sets name)
      → exists sets name ≡ said
  it_exists name said says = told (exists sets name) said (Exists sets name) (names sets name) says

  pub itself : (name : List (List ℕ)) (said : Bool) → (IsTrue said ↔ Exists sets name)
      → said ≡ true → source sets name ≡ Some name
  itself name said says true_so =
      ap (λ b. cond b (Some name) (if_exists sets (wildcard ∷ closest sets name)))
      (it_exists name said says ∙ true_so)

  pub from_wildcard : (name : List (List ℕ)) (said : Bool) → (IsTrue said ↔ Exists sets name)
      → said ≡ false → source sets name ≡ if_exists sets (wildcard ∷ closest sets name)
  from_wildcard name said says not_so =
      ap (λ b. cond b (Some name) (if_exists sets (wildcard ∷ closest sets name)))
      (it_exists name said says ∙ not_so)

  -- the closest encloser is one name
  pub one_closest : EnclosersAreClosest → (name encloser : List (List ℕ))
      → IsClosest sets name encloser → closest sets name ≡ encloser
  one_closest closer name encloser is =
      let other = closer sets name encloser is.ancestor is.exists in
      let up = is.longest (closest sets name) other.ancestor other.exists in
      let down = other.longest encloser is.ancestor is.exists in
      one_end name (closest sets name) encloser other.ancestor.0 is.ancestor.0
      (omega (arith, up, down))

  fitting : (name : List (List ℕ)) → length (wire name) ≤ 255 → fits name ≡ true
  fitting name short = grind (arith, short)

  too_long : (name : List (List ℕ)) → 255 < length (wire name) → fits name ≡ false
  too_long name long = grind (arith, long)

  -- by whether the wildcard fits and exists
  pub no_room : (name : List (List ℕ)) → 255 < length (wire name) → if_exists sets name ≡ None
  no_room name long =
      ap (λ b. cond (b && exists sets name) (Some name) None) (too_long name long)

  pub there : (name : List (List ℕ)) (said : Bool) → length (wire name) ≤ 255
      → (IsTrue said ↔ Exists sets name) → if_exists sets name ≡ cond said (Some name) None
  there name said short says =
      ap (λ b. cond (b && exists sets name) (Some name) None) (fitting name short)
      ∙ ap (λ b. cond b (Some name) None) (it_exists name said says)
