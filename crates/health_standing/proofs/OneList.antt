-- The sets of a group are listed in one way.
use Rattle.std.proofs.Common.{◌≡◌, ℕ, List, [], ◌∷◌, refl, ap, sym, ◌∙◌, inl, inr}
use Rattle.health_planning.proofs.MembersOfZoneList.{one_of_key}
use Rattle.health_planning.proofs.Wiring.{rising_in}
use Rattle.health_planning.specs.Wired.{AreMembers}
use Rattle.health_planning.specs.Zones.{AreZones, Zone, placed_in}
use Rattle.rdata_layout.specs.declared.types.RType.{RType}
use Rattle.record_set.specs.Sets.{key_of}
use Rattle.zone_model.specs.Slotted.{IsHere, Slotted, sets_of}

first_set : (p q : Slotted) (xs ys : List Slotted) → sets_of (p ∷ xs) ≡ sets_of (q ∷ ys) → p.set ≡ q.set
first_set p q xs ys e = cc

rest_sets : (p q : Slotted) (xs ys : List Slotted) → sets_of (p ∷ xs) ≡ sets_of (q ∷ ys) → sets_of xs ≡ sets_of ys
rest_sets p q xs ys e = cc

both : {p q : Slotted} {xs ys : List Slotted} → p ≡ q → xs ≡ ys → p ∷ xs ≡ q ∷ ys
both e f = cc

module _ (zones : List Zone) (are_zones : AreZones zones) (zone : ℕ) where
  one_list : (xs ys : List Slotted) → sets_of xs ≡ sets_of ys
      → ((p : Slotted) → IsHere xs p → IsHere (placed_in zones zone) p)
      → ((p : Slotted) → IsHere ys p → IsHere (placed_in zones zone) p) → xs ≡ ys
  one_list [] [] e here_x here_y = refl
  one_list [] (q ∷ ys) e here_x here_y = let no : ⊥ = cc in absurd no
  one_list (p ∷ xs) [] e here_x here_y = let no : ⊥ = cc in absurd no
  one_list (p ∷ xs) (q ∷ ys) e here_x here_y =
      both (one_of_key (placed_in zones zone) (rising_in zones are_zones.each zone) p q (here_x p (inl refl)) (here_y q (inl refl))
      (ap key_of (first_set p q xs ys e)))
      (one_list xs ys (rest_sets p q xs ys e) (λ x m. here_x x (inr m)) (λ y m. here_y y (inr m)))

  pub members_same : (name : List (List ℕ)) (rtype : RType) (xs ys : List Slotted)
      → AreMembers zones zone name rtype xs → AreMembers zones zone name rtype ys → xs ≡ ys
  members_same name rtype xs ys are_xs are_ys =
      one_list xs ys (are_xs.sets ∙ sym are_ys.sets) are_xs.here are_ys.here
