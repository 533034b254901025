-- What sets name, gathered one set after another.
use Rattle.std.proofs.Common.{◌≡◌, ℕ, ◌+◌, ◌<◌, ◌≤◌, List, [], ◌∷◌, ◌++◌, length, drop, ap, ◌∙◌, sym}
use Rattle.std.proofs.Common.{refl, subst, Option, None, Some}
use Rattle.std.specs.List.{cons_option}
use Rattle.std.specs.Prelude.{slice_get}
use Rattle.std.proofs.lemmas.List.{append_assoc, append-nil}
use Rattle.std.proofs.lemmas.List.Elements.{filter_map-append}
use Rattle.config_zones.specs.Edited.{hosted_in}
use Rattle.config_zones.specs.Configs.{all_sets}
use Rattle.config_zones.specs.Others.{named_by, used_by}
use Rattle.config_zones.specs.Laws.{ZonesFollow}
use Rattle.config_zones.specs.Walks.{above}
use Rattle.record_set.specs.declared.sets.RecordSet.{RecordSet}
use Rattle.routing.specs.declared.policies.Routing.{Routing}
use Rattle.config_zones.specs.Octets.{HasSpelling, IsSpelledRouting}
use Rattle.config_zones.proofs.MembersOfZoneList.{left_at, nothing_left}
use Rattle.config_zones.specs.Found.{IsNextZone, NextZoneOrNone}
use Rattle.config_zones.specs.Zones.{AreZones, Zone, placed_in}
use Rattle.zone_model.specs.Slotted.{sets_of}
use Rattle.collection_commands.specs.Named.{named_in}

abbrev Used : Type 0
Used = List (ℕ × List ℕ)

named_both : (xs ys : List RecordSet) → named_in (xs ++ ys) ≡ named_in xs ++ named_in ys
named_both xs ys = filter_map-append (λ (set : RecordSet). named_by set.routing) xs ys

-- ---- the sets of a zone

-- with what is left, what was gathered is all
abbrev pub IsGathered : (before : Used) → (sets : List RecordSet) → (i : ℕ) → (used : Used) → Type 0
IsGathered before sets i used = used ++ named_in (drop i sets) ≡ before ++ named_in sets

module _ (before : Used) (sets : List RecordSet) (i : ℕ) (used : Used)
    (gathered : IsGathered before sets i used) where
  pub one_more : (set : RecordSet) → slice_get sets i ≡ Some set → (now : Used)
      → now ≡ used ++ named_in (set ∷ []) → IsGathered before sets (i + 1) now
  one_more set at now is =
      ap (λ (u : Used). u ++ named_in (drop (i + 1) sets)) is
      ∙ (append_assoc used (named_in (set ∷ [])) (named_in (drop (i + 1) sets))
      ∙ (ap (λ (u : Used). used ++ u) (sym (named_both (set ∷ []) (drop (i + 1) sets)))
      ∙ (ap (λ (xs : List RecordSet). used ++ named_in xs) (sym (left_at sets i set at))
      ∙ gathered)))

  pub all_gathered : length sets ≤ i → used ≡ before ++ named_in sets
  all_gathered le =
      sym (append-nil used)
      ∙ (ap (λ (xs : List RecordSet). used ++ named_in xs) (sym (nothing_left sets i le))
      ∙ gathered)

-- ---- the sets of all zones

abbrev pub IsGatheredTo : List Zone → (last : ℕ) → (used : Used) → Type 0
IsGatheredTo zones last used =
    used ++ used_by (hosted_in (above zones last)) ≡ used_by (hosted_in zones)

module _ (zones : List Zone) (follow : ZonesFollow) (are : AreZones zones) where
  pub at_first : (none : Used) → none ≡ [] → IsGatheredTo zones 0 none
  at_first none e =
      ap (λ (u : Used). u ++ used_by (hosted_in (above zones 0))) e
      ∙ ap (λ (zs : List Zone). used_by (hosted_in zs)) (follow.all zones are)

  module _ (last : ℕ) (used : Used) (gathered : IsGatheredTo zones last used) where
    pub zone_more : (next : ℕ) → IsNextZone zones last next → (now : Used)
        → now ≡ used ++ named_in (sets_of (placed_in zones next)) → IsGatheredTo zones next now
    zone_more next is now e =
        let its = named_in (sets_of (placed_in zones next)) in
        let rest = all_sets (hosted_in (above zones next)) in
        ap (λ (u : Used). u ++ named_in rest) e
        ∙ (append_assoc used its (named_in rest)
        ∙ (ap (λ (u : Used). used ++ u)
        (sym (named_both (sets_of (placed_in zones next)) rest))
        ∙ (ap (λ (xs : List RecordSet). used ++ named_in xs)
        (sym (follow.sets zones last next are is))
        ∙ gathered)))

    pub all_zones : NextZoneOrNone zones last None → used ≡ used_by (hosted_in zones)
    all_zones none =
        sym (append-nil used)
        ∙ (ap (λ (zs : List Zone). used ++ used_by (hosted_in zs))
        (sym (follow.none zones last none))
        ∙ gathered)

-- ---- one set

pub added_one : (set : RecordSet) (used : Used) (named : ℕ × List ℕ)
    → Some named ≡ named_by set.routing → used ++ named ∷ [] ≡ used ++ named_in (set ∷ [])
added_one set used named e = ap (λ (o : Option (ℕ × List ℕ)). used ++ cons_option o []) e

pub added_none : (set : RecordSet) (used : Used) → None ≡ named_by set.routing
    → used ≡ used ++ named_in (set ∷ [])
added_none set used e =
    sym (append-nil used) ∙ ap (λ (o : Option (ℕ × List ℕ)). used ++ cons_option o []) e

pub its_policy : (set : RecordSet) → HasSpelling set → (routing : Routing) → routing ≡ set.routing
    → IsSpelledRouting routing
its_policy set spelled routing e = subst IsSpelledRouting (sym e) spelled.routing
