-- Sets that name a check, looked at one after another.
use Rattle.std.proofs.Common.{◌≡◌, ℕ, Bool, true, false, List, [], ◌∷◌}
use Rattle.std.proofs.Common.{ap, ◌∙◌, sym, refl, arith, None, Option, Some}
use Rattle.std.specs.Prelude.{is_some, ◌||◌}
use Rattle.std.proofs.lemmas.List.Sums.{sum_by-cons}
use Rattle.config_edits.specs.Sums.{checked_in, checked_of, one_of}
use Rattle.std.proofs.lemmas.List.Folds.{list_any-append}
use Rattle.config_zones.specs.Edited.{hosted_in}
use Rattle.config_zones.specs.Configs.{all_sets}
use Rattle.config_zones.specs.Others.{is_check_named, is_number}
use Rattle.config_zones.specs.Laws.{ZonesFollow}
use Rattle.config_zones.specs.Walks.{above}
use Rattle.record_set.specs.declared.sets.RecordSet.{RecordSet}
use Rattle.config_zones.specs.Found.{IsNextZone, NextZoneOrNone}
use Rattle.config_zones.specs.Zones.{AreZones, Zone, placed_in}
use Rattle.zone_model.specs.Slotted.{Slotted, sets_of}

abbrev pub names : ℕ → RecordSet → Bool
names id set = is_number id set.check

-- ---- sets of which none names a check

pub none_names : (id : ℕ) (placed : List Slotted) → checked_of placed ≡ 0
    → false ≡ is_check_named id (sets_of placed)
none_names id [] none = refl
none_names id (p ∷ placed) none =
    let sum = sum_by-cons checked_in p placed in
    let rest = none_names id placed (omega (arith, sum, none)) in
    by p.set.check refl rest (omega (arith, sum, none))
  where
    by : (check : Option ℕ) → p.set.check ≡ check
        → false ≡ is_check_named id (sets_of placed) → checked_in p ≡ 0
        → false ≡ is_check_named id (sets_of (p ∷ placed))
    by None is rest zero =
        rest ∙ ap (λ (o : Option ℕ). is_number id o || is_check_named id (sets_of placed)) (sym is)
    by (Some other) is rest zero =
        let one : checked_in p ≡ 1 = ap (λ (o : Option ℕ). one_of (is_some o)) is in
        absurd (omega (arith, one, zero))

-- ---- the sets of all zones

abbrev pub IsAsInZones : (id : ℕ) → List Zone → (last : ℕ) → Type 0
IsAsInZones id zones last =
    is_check_named id (all_sets (hosted_in (above zones last)))
    ≡ is_check_named id (all_sets (hosted_in zones))

module _ (id : ℕ) (zones : List Zone) (follow : ZonesFollow) (are : AreZones zones) where
  pub at_first : IsAsInZones id zones 0
  at_first =
      ap (λ (zs : List Zone). is_check_named id (all_sets (hosted_in zs))) (follow.all zones are)

  module _ (last : ℕ) (before : IsAsInZones id zones last) where
    module _ (next : ℕ) (is : IsNextZone zones last next) where
      abbrev rest : List RecordSet
      rest = all_sets (hosted_in (above zones next))

      next_sets : is_check_named id (all_sets (hosted_in (above zones last)))
          ≡ (is_check_named id (sets_of (placed_in zones next)) || is_check_named id rest)
      next_sets =
          ap (is_check_named id) (follow.sets zones last next are is)
          ∙ list_any-append (names id) (sets_of (placed_in zones next)) rest

      pub in_zone : is_check_named id (sets_of (placed_in zones next)) ≡ true
          → true ≡ is_check_named id (all_sets (hosted_in zones))
      in_zone e =
          sym (ap (λ b. b || is_check_named id rest) e) ∙ (sym next_sets ∙ before)

      pub not_in_zone : is_check_named id (sets_of (placed_in zones next)) ≡ false
          → IsAsInZones id zones next
      not_in_zone e = sym (next_sets ∙ ap (λ b. b || is_check_named id rest) e) ∙ before

    pub in_none : NextZoneOrNone zones last None
        → false ≡ is_check_named id (all_sets (hosted_in zones))
    in_none none =
        sym (ap (λ (zs : List Zone). is_check_named id (all_sets (hosted_in zs)))
        (follow.none zones last none))
        ∙ before
