-- A command on checks or collections that is made leaves a sound configuration.
use Rattle.std.proofs.Common.{◌≡◌, ℕ, zero, Bool, true, false, List, [], ◌∷◌, inl, inr, ap, ◌∙◌}
use Rattle.std.proofs.Common.{sym, refl, subst, arith, Option, None, Some}
use Rattle.std.specs.Prelude.{◌==◌, Contains, option_map, Ok, Err, Result}
use Rattle.std.specs.List.{cons_option, filter_map, list_any}
use Rattle.std.proofs.lemmas.Bool.{eq-eqb, eqb-true, false≢true}
use Rattle.check_model.specs.Checks.{Checks, IsId, check_with}
use Rattle.check_model.specs.Commands.{IsBoundedCommand, outcome, checks_after, given_by, number_of}
use Rattle.check_model.specs.Commands.{refusal_of, unless, updated_check}
use Rattle.check_model.specs.Kept.{KeepsRest, its_check}
use Rattle.check_model.specs.Kept as checks
use Rattle.check_model.specs.declared.checks.Check.{Check}
use Rattle.check_model.specs.declared.checks.CheckCommand.{CheckCommand}
use Rattle.check_model.specs.declared.checks.CheckCommand.TheVariants.{Create, Update, Delete}
use Rattle.check_model.specs.declared.refusals.CheckRefusal.{CheckRefusal}
use Rattle.check_model.proofs.Members.{further}
use Rattle.command_octets.specs.CidrFaultRecord.{CidrFault}
use Rattle.command_octets.specs.CommandsOfCidrCommands.{HasNames, outcome as cidr_answer}
use Rattle.command_octets.specs.Kept as cidr
use Rattle.command_octets.specs.Stored.{Stored}
use Rattle.command_octets.specs.CidrCommandRecord.{CidrCommand}
use Rattle.set_reading.specs.RecordSetRecord.{RecordSet}
use Rattle.set_reading.specs.RoutingRecord.TheVariants.{Cidr}
use Rattle.command_octets.specs.Hosted.{HostedZone}
use Rattle.command_octets.specs.Zones.{IsAmong}
use Rattle.config_model.specs.Configs.{Config, all_sets}
use Rattle.config_model.specs.Others.{change_checks, change_collections, in_use, is_number}
use Rattle.config_model.specs.Others.{made_check, made_collection, named_by, used_by}
use Rattle.config_model.specs.Others.{with_collections}
use Rattle.config_model.specs.Sound.{IsSoundZone, Sound}
use Rattle.config_model.specs.Telling.{first_of, of_check}
use Rattle.config_model.specs.Told.{RefusalsAreTold}
use Rattle.config_model.specs.declared.refusals.Made.{Made}
use Rattle.config_model.specs.declared.refusals.Refusal.TheVariants.{HealthCheckInUse}
use Rattle.config_model.proofs.Left.{in_back, in_front}
use Rattle.config_model.proofs.Members.{all_at, all_from, any_of}
use Rattle.config_model.proofs.Told.{told_false}
use Rattle.config_model.proofs.Zoning.{accepted, both_none}

-- ---- the sets of all zones

pub of_all : (zones : List HostedZone) (zone : HostedZone) (set : RecordSet) → IsAmong zones zone
    → IsAmong zone.sets set → IsAmong (all_sets zones) set
of_all [] zone set there also = absurd there
of_all (y ∷ zones) zone set (inl e) also =
    in_front y.sets (all_sets zones) set
    (subst (λ (z : HostedZone). IsAmong z.sets set) (sym e) also)
of_all (y ∷ zones) zone set (inr there) also =
    in_back y.sets (all_sets zones) set (of_all zones zone set there also)

-- what is told of one of them is told of them all
module _ {X Y : Type 0} (f : X → Option Y) where
  told_more : (o : Option Y) (ys : List Y) (y : Y) → Contains ys y → Contains (cons_option o ys) y
  told_more None ys y there = there
  told_more (Some x) ys y there = further x ys y there

  told_first : (o : Option Y) (ys : List Y) (y : Y) → o ≡ Some y → Contains (cons_option o ys) y
  told_first None ys y e = absurd (grind (arith, e))
  told_first (Some x) ys y e = (zero, omega arith, grind (arith, e))

  told_among : (xs : List X) (x : X) (y : Y) → IsAmong xs x → f x ≡ Some y
      → Contains (filter_map f xs) y
  told_among [] x y there e = absurd there
  told_among (z ∷ xs) x y (inl same) e =
      told_first (f z) (filter_map f xs) y (ap f same ∙ e)
  told_among (z ∷ xs) x y (inr there) e =
      told_more (f z) (filter_map f xs) y (told_among xs x y there e)

-- ---- checks

none_mapped : (o : Option CheckRefusal) → option_map of_check o ≡ None → o ≡ None
none_mapped None e = refl
none_mapped (Some why) e = absurd (grind (arith, e))

module _ (sets_lent : RefusalsAreTold) (config : Config) (sound : Sound config) where
  module _ (command : CheckCommand) (bounds : IsBoundedCommand command)
      (keeps : checks.KeepsSound) (rest : checks.KeepsRest)
      (none : refusal_of config.checks command ≡ None)
      (unused : in_use config.zones command ≡ None) where
    abbrev now : Checks
    now = checks_after config.checks command

    abbrev id : ℕ
    id = number_of config.checks command

    answered : outcome config.checks command ≡ Ok (now, id)
    answered = ap (λ r. unless r (now, id)) none

    its_there : (named : CheckCommand) (before : Option Check) → ((n : ℕ) → named ≡ Delete n → ⊥)
        → (check : Check) → before ≡ Some check
        → (after : Check) × (its_check named before ≡ Some after)
    its_there (Create new) before kept check e = (new, refl)
    its_there (Update n inverted disabled threshold children) before kept check e = (
      updated_check (given_by inverted disabled threshold children) check,
      ap (option_map (updated_check (given_by inverted disabled threshold children))) e,
    )
    its_there (Delete n) before kept check e = absurd (kept n refl)

    not_deleted : (set : RecordSet) (zone : HostedZone) → IsAmong config.zones zone
        → IsAmong zone.sets set → (c : ℕ) → set.check ≡ Some c → command ≡ Delete c → ⊥
    not_deleted set zone there among c named e =
        let freed : in_use config.zones (Delete c) ≡ None =
        subst (λ x. in_use config.zones x ≡ None) e unused in
        false≢true (sym (told_false
        (list_any (λ (s : RecordSet). is_number c s.check) (all_sets config.zones))
        (HealthCheckInUse c) freed)
        ∙ any_of (λ (s : RecordSet). is_number c s.check) (all_sets config.zones) set
        (of_all config.zones zone set there among)
        (ap (is_number c) named ∙ eq-eqb c c refl))

    check_stays : (c : ℕ) → (command ≡ Delete c → ⊥) → IsId config.checks.list c
        → IsId now.list c
    check_stays c kept (check, at) = by (c == id) refl
      where
        deletes : (n : ℕ) → c ≡ id → command ≡ Delete n → ⊥
        deletes n same e =
            kept (e ∙ ap Delete (sym (ap (number_of config.checks) e) ∙ sym same))

        by : (b : Bool) → (c == id) ≡ b → IsId now.list c
        by false e = (
          check,
          rest.others config.checks now command id c sound.checks answered
              (λ same. false≢true (sym e ∙ eq-eqb c id same)) ∙ at,
        )
        by true e =
            let same : c ≡ id = eqb-true c id e in
            let its = its_there command (check_with config.checks.list id) (λ n. deletes n same)
            check (ap (check_with config.checks.list) (sym same) ∙ at) in (
              its.0,
              ap (check_with now.list) same
                  ∙ rest.its config.checks now command id sound.checks answered ∙ its.1,
            )

    zone_beside : (zone : HostedZone) → IsAmong config.zones zone
        → IsSoundZone config.checks.list config.collections.list zone
        → IsSoundZone now.list config.collections.list zone
    zone_beside zone there own =
        let o = (sets_lent.none config.checks.list config.collections.list zone.sets).0 own.last in
        record {
          name = own.name;
          sets = own.sets;
          ns = own.ns;
          soa = own.soa;
          parts = own.parts;
          allowed = own.allowed;
          spelled = own.spelled;
          rules = own.rules;
          last = (sets_lent.none now.list config.collections.list zone.sets).1 (record {
            checks_there = λ set c among named.
                check_stays c (not_deleted set zone there among c named)
                (o.checks_there set c among named);
            places_there = o.places_there;
            targets_there = o.targets_there;
            not_too_deep = o.not_too_deep;
            few = o.few;
          });
        }

    sound_beside : Sound (record config { checks = now })
    sound_beside = record {
      collections = sound.collections;
      from = sound.from;
      to = sound.to;
      numbers = sound.numbers;
      listed = sound.listed;
      few = sound.few;
      not_full = sound.not_full;
      checks = keeps config.checks now command id sound.checks bounds answered;
      each = all_from (IsSoundZone now.list config.collections.list) config.zones
          (λ zone there. zone_beside zone there
          (all_at (IsSoundZone config.checks.list config.collections.list) config.zones zone
          sound.each there));
    }

  pub checks_keep : (command : CheckCommand) → IsBoundedCommand command → checks.KeepsSound
      → checks.KeepsRest → (after : Config) (what : Made)
      → Ok (after, what) ≡ change_checks config command → Sound after
  checks_keep command bounds keeps rest after what e =
      let now : Config = record config { checks = checks_after config.checks command } in
      let answer = accepted
      (first_of (option_map of_check (refusal_of config.checks command)
      ∷ in_use config.zones command ∷ []))
      (after, what) (now, made_check config.checks command) e in
      let none = both_none (option_map of_check (refusal_of config.checks command))
      (in_use config.zones command) answer.0 in
      subst Sound (sym (ap (λ (x : Config × Made). x.0) answer.1))
      (sound_beside command bounds keeps rest
      (none_mapped (refusal_of config.checks command) none.0) none.1)

  -- ---- collections

  module _ (command : CidrCommand) (names : HasNames command) (keeps : cidr.KeepsSound)
      (used : cidr.KeepsUsed) (stored : Stored)
      (answered : cidr_answer config.collections command (used_by config.zones) ≡ Ok stored) where
    place_stays : (set : RecordSet) (zone : HostedZone) → IsAmong config.zones zone
        → IsAmong zone.sets set → (ident : List ℕ) (id : ℕ) (location : List ℕ)
        → set.routing ≡ Cidr ident id location → cidr.IsThere config.collections.list (id, location)
        → cidr.IsThere stored.list (id, location)
    place_stays set zone there among ident id location named is =
        used config.collections command (used_by config.zones) stored answered (id, location)
        (told_among (λ (s : RecordSet). named_by s.routing) (all_sets config.zones) set
        (id, location) (of_all config.zones zone set there among) (ap named_by named)) is

    zone_placed : (zone : HostedZone) → IsAmong config.zones zone
        → IsSoundZone config.checks.list config.collections.list zone
        → IsSoundZone config.checks.list stored.list zone
    zone_placed zone there own =
        let o = (sets_lent.none config.checks.list config.collections.list zone.sets).0 own.last in
        record {
          name = own.name;
          sets = own.sets;
          ns = own.ns;
          soa = own.soa;
          parts = own.parts;
          allowed = own.allowed;
          spelled = own.spelled;
          rules = own.rules;
          last = (sets_lent.none config.checks.list stored.list zone.sets).1 (record {
            checks_there = o.checks_there;
            places_there = λ set ident id location among named.
                place_stays set zone there among ident id location named
                (o.places_there set ident id location among named);
            targets_there = o.targets_there;
            not_too_deep = o.not_too_deep;
            few = o.few;
          });
        }

    sound_placed : Sound (record config { collections = stored })
    sound_placed = record {
      checks = sound.checks;
      from = sound.from;
      to = sound.to;
      numbers = sound.numbers;
      listed = sound.listed;
      few = sound.few;
      not_full = sound.not_full;
      collections = keeps config.collections command (used_by config.zones) stored
          sound.collections names answered;
      each = all_from (IsSoundZone config.checks.list stored.list) config.zones
          (λ zone there. zone_placed zone there
          (all_at (IsSoundZone config.checks.list config.collections.list) config.zones zone
          sound.each there));
    }

  collections_by : (command : CidrCommand) → HasNames command → cidr.KeepsSound → cidr.KeepsUsed
      → (found : Result Stored CidrFault)
      → cidr_answer config.collections command (used_by config.zones) ≡ found
      → (after : Config) (what : Made)
      → Ok (after, what)
      ≡ with_collections config (made_collection config.collections command) found
      → Sound after
  collections_by command names keeps used (Err fault) answered after what e =
      absurd (grind (arith, e))
  collections_by command names keeps used (Ok stored) answered after what e =
      let same : after ≡ record config { collections = stored } = grind (arith, e) in
      subst Sound (sym same) (sound_placed command names keeps used stored answered)

  pub collections_keep : (command : CidrCommand) → HasNames command → cidr.KeepsSound
      → cidr.KeepsUsed → (after : Config) (what : Made)
      → Ok (after, what) ≡ change_collections config command → Sound after
  collections_keep command names keeps used after what e =
      collections_by command names keeps used
      (cidr_answer config.collections command (used_by config.zones)) refl after what e
