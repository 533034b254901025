-- From the zones of a configuration, which have no slots, to the same zones with slots.
use Rattle.std.proofs.Common.{◌≡◌, ◌≢◌, ◌≤◌, ℕ, List, [], ◌∷◌, length}
use Rattle.std.proofs.Common.{ap, sym, refl, subst, ◌∙◌, inl, inr, arith}
use Rattle.std.proofs.lemmas.Bool.{cases_eq, cases_lt, eq-eqb, ne_eqb}
use Rattle.std.proofs.lemmas.Option.{slice_get_within}
use Rattle.config_edits.specs.Rules.{MeetsAll, rules}
use Rattle.config_edits.specs.Laws.{hosted_in}
use Rattle.config_edits.proofs.Told as told
use Rattle.config_edits.specs.Configs.{Config}
use Rattle.config_edits.specs.Sound.{IsSoundZone, Sound}
use Rattle.config_edits.specs.Told.{AreInOrder}
use Rattle.health_index.proofs.Truth.{zone_sets}
use Rattle.health_index.specs.Wired.{watched_of}
use Rattle.health_model.specs.Healthy.{sets_of as sets_at}
use Rattle.health_model.specs.Sound.{IsSound}
use Rattle.zone_lookup.proofs.GroupSizes.{few_by_each_set}
use Rattle.zone_lookup.specs.Groups.{FewInGroups}
use Rattle.record_set.specs.declared.sets.RecordSet.{RecordSet}
use Rattle.config_edits.proofs.Members.{in_all}
use Rattle.config_edits.specs.Zones.{IsOne, Zone, hosted, placed_in}
use Rattle.zone_lookup.specs.Served.{AreServed, CanAnswer}
use Rattle.zone_model.proofs.Among.{place_of}
use Rattle.zone_model.specs.Hosted.{HostedZone}
use Rattle.zone_model.specs.Slotted.{Slotted, sets_of}
use Rattle.zone_model.specs.Walks.{HasNoTarget, IsTooDeep}
use Rattle.zone_model.specs.Zones.{IsAmong, group}

-- ---- zones with slots and without

hosted_one : (zones : List Zone) (zone : Zone) → IsOne zones zone
    → IsAmong (hosted_in zones) (hosted zone)
hosted_one [] zone there = absurd there
hosted_one (first ∷ zones) zone (inl is) = inl (ap hosted is)
hosted_one (first ∷ zones) zone (inr there) = inr (hosted_one zones zone there)

-- the zone that has the sets of a number
record ItsZone (zones : List Zone) (id : ℕ) : Type 0 where
  pub zone : Zone
  pub there : IsOne zones zone
  pub same : placed_in zones id ≡ zone.placed

its_zone : (zones : List Zone) (id : ℕ) (set : RecordSet)
    → IsAmong (sets_of (placed_in zones id)) set → ItsZone zones id
its_zone [] id set among = absurd among
its_zone (first ∷ zones) id set among = elim (cases_eq first.id id) [
  | inl same ↦ record {
    zone = first;
    there = inl refl;
    same = rw (eq-eqb first.id id same) refl;
  }
  | inr apart ↦
      let other : placed_in (first ∷ zones) id ≡ placed_in zones id =
      rw (ne_eqb first.id id apart) refl in
      let rest = its_zone zones id set
      (subst (λ (ps : List Slotted). IsAmong (sets_of ps) set) other among) in
      record { zone = rest.zone; there = inr rest.there; same = other ∙ rest.same }
]

-- ---- a sound zone

few_in_rules : (sets : List RecordSet) (apex : List (List ℕ)) → MeetsAll rules sets apex
    → FewInGroups sets
few_in_rules sets apex meets = few_by_each_set sets each
  where
    each : (set : RecordSet) → IsAmong sets set → length (group sets set.name set.rtype) ≤ 100
    each set among = elim (cases_lt 100 (length (group sets set.name set.rtype))) [
      | inl full ↦
          let at = place_of sets set among in
          absurd (meets.1.1.1.0 at.0 (slice_get_within sets at.0 set at.1) (set, at.1, full))
      | inr few ↦ few
    ]

some_there : (placed : List Slotted) (set : RecordSet) → IsAmong (sets_of placed) set → placed ≢ []
some_there [] set among none = among
some_there (p ∷ placed) set among none = grind (arith, none)

module _ (zones : List Zone) (config : Config) (same : config.zones ≡ hosted_in zones)
    (sound : Sound config) where
  sound_one : (zone : Zone) → IsOne zones zone
      → IsSoundZone config.checks.list config.collections.list (hosted zone)
  sound_one zone there =
      in_all (IsSoundZone config.checks.list config.collections.list) config.zones (hosted zone)
      sound.each (subst (λ (list : List HostedZone). IsAmong list (hosted zone)) (sym same)
      (hosted_one zones zone there))

  pub served : AreServed zones
  served = record { each = λ zone there. can zone (sound_one zone there) }
    where
      can : (zone : Zone)
          → IsSoundZone config.checks.list config.collections.list (hosted zone) → CanAnswer zone
      can zone is = record {
        some = some_there zone.placed is.soa.0 is.soa.1.there;
        few = few_in_rules (sets_of zone.placed) zone.apex is.rules;
      }

  -- what the sets of a zone name is in order
  in_order : (id : ℕ) (set : RecordSet) → IsAmong (sets_of (placed_in zones id)) set
      → AreInOrder config.checks.list config.collections.list (sets_of (placed_in zones id))
  in_order id set among =
      let its = its_zone zones id set among in
      subst (λ (ps : List Slotted). AreInOrder config.checks.list config.collections.list
      (sets_of ps)) (sym its.same)
      (told.in_order config.checks.list config.collections.list (sets_of its.zone.placed)
      (sound_one its.zone its.there).last)

  seen : (id : ℕ) (set : RecordSet) → IsAmong (sets_at (watched_of zones config.checks) id) set
      → IsAmong (sets_of (placed_in zones id)) set
  seen id set = subst (λ (sets : List RecordSet). IsAmong sets set)
      (zone_sets zones config.checks id)

  pub watched : IsSound (watched_of zones config.checks)
  watched = record {
    children = sound.checks.children;
    shallow = sound.checks.shallow;
    checks = λ zone set id among. (in_order zone set (seen zone set among)).checks_there set id
        (seen zone set among);
    targets = λ zone set among none.
        (in_order zone set (seen zone set among)).targets_there set (seen zone set among)
        (subst (λ (sets : List RecordSet). HasNoTarget sets set)
        (zone_sets zones config.checks zone) none);
    aliases = λ zone set among deep.
        (in_order zone set (seen zone set among)).not_too_deep set (seen zone set among)
        (subst (λ (sets : List RecordSet). IsTooDeep sets set)
        (zone_sets zones config.checks zone) deep);
  }
