-- What a set names, found or not.
use Rattle.std.proofs.Common.{◌≡◌, ℕ, Bool, List, Option, Some, IsTrue, ◌↔◌, ◌∙◌, sym}
use Rattle.std.proofs.Common.{refl, subst, arith, inl, inr}
use Rattle.std.specs.List.{list_any}
use Rattle.std.specs.Str.{bytes_eq}
use Rattle.std.proofs.lemmas.Map.Views.{Contains-from_any}
use Rattle.std.proofs.lemmas.Slice.Eq.{bytes_eq-Decides}
use Rattle.check_model.specs.Checks.{check_with}
use Rattle.check_model.specs.declared.checks.Check.{Check}
use Rattle.cidr_blocks.specs.Idents.{star}
use Rattle.cidr_blocks.specs.Places.{names_of}
use Rattle.cidr_blocks.specs.declared.places.CidrLocation.{CidrLocation}
use Rattle.cidr_changes.specs.Laws.{IsStarOrLocation}
use Rattle.cidr_blocks.specs.declared.places.Collection.{Collection}
use Rattle.cidr_commands.specs.Kept.{IsThereIn}
use Rattle.cidr_commands.specs.Stored.{collection_with}
use Rattle.config_model.proofs.Members.{among_of, any_of}
use Rattle.routing.specs.declared.policies.Routing.{Routing}
use Rattle.routing.specs.declared.policies.Routing.TheVariants.{Cidr}
use Rattle.zone_soundness.specs.Parts.{ArePlacesThere, IsCheckThere}

one_number : (id other : ℕ) → Some id ≡ Some other → id ≡ other
one_number id other e = grind (arith, e)

pub check_there : (checks : List (ℕ × Check)) (named : Option ℕ) (id : ℕ) (found : Option Check)
    → named ≡ Some id → found ≡ check_with checks id → (check : Check) → found ≡ Some check
    → IsCheckThere checks named
check_there checks named id found named_is at check is other same =
    let one : id ≡ other = one_number id other (sym named_is ∙ same) in
    (check, subst (λ n. check_with checks n ≡ Some check) one (sym at ∙ is))

-- the name is not `*`, so it is there only where it is one of the locations'
pub placed : (locations : List CidrLocation) (name : List ℕ) (has : Bool) → (name ≡ star → ⊥)
    → has ≡ list_any (bytes_eq name) (names_of locations)
    → IsTrue has ↔ IsStarOrLocation locations name
placed locations name has other told = (to, from)
  where
    to : IsTrue has → IsStarOrLocation locations name
    to e = inr (Contains-from_any (λ x y same. (bytes_eq-Decides x y).0 same) name
        (names_of locations) (sym told ∙ e))

    from : IsStarOrLocation locations name → IsTrue has
    from (inl same) = absurd (other same)
    from (inr there) =
        told ∙ any_of (bytes_eq name) (names_of locations) name
        (among_of (names_of locations) name there) ((bytes_eq-Decides name name).1 refl)

module _ (list : List (ℕ × Collection)) where
  -- the policy names this place
  pub places_told : (policy : Routing) (ident : List ℕ) (id : ℕ) (location : List ℕ)
      → policy ≡ Cidr ident id location → (found : Option Collection)
      → found ≡ collection_with id list → (has : Bool) → IsTrue has ↔ IsThereIn found location
      → IsTrue has ↔ ArePlacesThere list policy
  places_told policy ident id location is found at has told = (to, from)
    where
      to : IsTrue has → ArePlacesThere list policy
      to e other other_id other_location same =
          let both : Cidr ident id location ≡ Cidr other other_id other_location = sym is ∙ same in
          let one : id ≡ other_id = cc in
          let place : location ≡ other_location = cc in
          subst (λ n. IsThereIn (collection_with n list) other_location) one
          (subst (λ text. IsThereIn (collection_with id list) text) place
          (subst (λ f. IsThereIn f location) at (told.0 e)))

      from : ArePlacesThere list policy → IsTrue has
      from there =
          told.1 (subst (λ f. IsThereIn f location) (sym at) (there ident id location is))
