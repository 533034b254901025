-- The rules of no command tell a fault of a disk.
use Rattle.std.proofs.Common.{◌≡◌, ℕ, Bool, true, false, List, [], ◌∷◌, Option, None, Some, Result, Ok, Err, inl, inr, refl, sym, subst, arith}
use Rattle.std.proofs.lemmas.Bool.{false≢true}
use Rattle.std.specs.Prelude.{map, option_map, not, is_some, ◌&&◌, ◌||◌, ◌==◌, length, ⊤}
use Rattle.std.specs.List.{AllByRecursion, list_any}
use Rattle.std.specs.Str.{bytes_eq}
use Rattle.sound_configs.specs.BatchRecord.{Batch}
use Rattle.sound_configs.specs.BatchRefusalRecord.{BatchRefusal}
use Rattle.sound_configs.specs.BatchRefusalRecord.TheVariants as batch
use Rattle.check_model.specs.Commands.{checks_after, is_there, refusal_of}
use Rattle.check_model.specs.declared.checks.Check.{Check}
use Rattle.check_model.specs.declared.checks.CheckCommand.{CheckCommand}
use Rattle.check_model.specs.declared.checks.CheckCommand.TheVariants as health
use Rattle.check_model.specs.declared.refusals.CheckRefusal.{CheckRefusal}
use Rattle.check_model.specs.declared.refusals.CheckRefusal.TheVariants as check
use Rattle.cidr_blocks.specs.Idents.{star}
use Rattle.cidr_blocks.specs.declared.places.Collection.{Collection}
use Rattle.cidr_changes.specs.declared.faults.CidrFault.{CidrFault}
use Rattle.cidr_changes.specs.declared.faults.CidrFault.TheVariants as fault
use Rattle.cidr_commands.specs.Commands.{outcome}
use Rattle.cidr_commands.specs.Stored.{Stored, collection_with}
use Rattle.sound_configs.specs.CommandRecord.{Command}
use Rattle.sound_configs.specs.CommandRecord.TheVariants as command
use Rattle.sound_configs.specs.Applying.{Applies, Decides, Outcome}
use Rattle.sound_configs.specs.Batches.{ChangesIn, check_refusal, collection_refusal, depth_refusal}
use Rattle.sound_configs.specs.Batches.{first_among, is_alias, is_empty, is_location_in, is_store_full}
use Rattle.sound_configs.specs.Batches.{is_too_deep, is_zone_full, location_refusal, named_check}
use Rattle.sound_configs.specs.Batches.{named_collection, named_location, sets_refusal, store_refusal}
use Rattle.sound_configs.specs.Batches.{target_refusal}
use Rattle.sound_configs.specs.Configs.{Config, all_sets, with_sets, without_zone, zone_with}
use Rattle.sound_configs.specs.NewZones.{are_most, create_refusal, end_of, end_refusal, has_zone}
use Rattle.sound_configs.specs.NewZones.{is_another, is_repeated, is_zone_name, with_zone}
use Rattle.sound_configs.specs.Others.{in_use, is_check_named, made_check, made_collection, used_by}
use Rattle.sound_configs.specs.Others.{with_collections}
use Rattle.sound_configs.specs.Telling.{first_of, invalid, of_batch, of_check, of_fault, refuse_if, unless}
use Rattle.sound_configs.specs.InputReasonRecord.TheVariants as reason
use Rattle.sound_configs.specs.MadeRecord.{Made}
use Rattle.sound_configs.specs.MadeRecord.TheVariants as made
use Rattle.sound_configs.specs.RefusalRecord.{Refusal}
use Rattle.sound_configs.specs.RefusalRecord.TheVariants as refusal
use Rattle.record_set.specs.Sets.{key_of}
use Rattle.record_set.specs.declared.sets.RecordSet.{RecordSet}
use Rattle.routing.specs.declared.policies.Routing.{Routing}
use Rattle.routing.specs.declared.policies.Routing.TheVariants as routing
use Rattle.zone_model.specs.Hosted.{HostedZone}
use Rattle.zone_model.specs.Zones.{target_group}

abbrev is_fault : Refusal → Bool
is_fault refusal.DiskFault = true
is_fault other = false

-- no refusal, or one that is no fault of a disk
abbrev Safe : Option Refusal → Type 0
Safe None = ⊤
Safe (Some why) = is_fault why ≡ false

same_why : (why other : Refusal) → ◌≡◌ {A = Outcome} (Err why) (Err other) → why ≡ other
same_why why other e = cc

no_answer : (why : Refusal) (answer : Config × Made) → ◌≡◌ {A = Outcome} (Err why) (Ok answer) → ⊥
no_answer why answer e = grind (arith, e)

-- ---- rules

ruled : (b : Bool) (why : Refusal) → is_fault why ≡ false → Safe (refuse_if b why)
ruled true why safe = safe
ruled false why safe = tt

of_all : (rules : List (Option Refusal)) → AllByRecursion Safe rules → Safe (first_of rules)
of_all [] all = tt
of_all (None ∷ rules) all = of_all rules all.1
of_all (Some why ∷ rules) all = all.0

module _ (refuses : RecordSet → Option Refusal) (each : (set : RecordSet) → Safe (refuses set)) where
  mapped : (sets : List RecordSet) → AllByRecursion Safe (map refuses sets)
  mapped [] = tt
  mapped (set ∷ sets) = (each set, mapped sets)

  among : (sets : List RecordSet) → Safe (first_among refuses sets)
  among sets = of_all (map refuses sets) (mapped sets)

told : (found : Option Refusal) → Safe found → (answer : Config × Made) (why : Refusal)
    → ◌≡◌ {A = Outcome} (Err why) (unless found answer) → is_fault why ≡ false
told None safe answer why e = absurd (no_answer why answer e)
told (Some other) safe answer why e =
    subst (λ (r : Refusal). is_fault r ≡ false) (sym (same_why why other e)) safe

-- ---- batches

batch_safe : (why : BatchRefusal) → is_fault (of_batch why) ≡ false
batch_safe batch.EmptyBatch = refl
batch_safe (batch.InvalidInput i why) = refl
batch_safe batch.TooManyValues = refl
batch_safe batch.TooManyCharacters = refl
batch_safe (batch.NotInZone i) = refl
batch_safe (batch.AlreadyExists i) = refl
batch_safe (batch.NotFound i) = refl
batch_safe (batch.ValuesDiffer i) = refl
batch_safe (batch.ApexProtected i) = refl
batch_safe (batch.MixedPolicies key) = refl
batch_safe (batch.CnameConflict name) = refl
batch_safe (batch.SamePlace key) = refl
batch_safe (batch.GroupFull name rtype) = refl
batch_safe batch.OutOfMemory = refl

check_named : (checks : List (ℕ × Check)) (named : Option ℕ) → Safe (named_check checks named)
check_named checks None = tt
check_named checks (Some id) =
    ruled (not (is_there checks id)) (refusal.NoSuchHealthCheck id) refl

collection_named : (list : List (ℕ × Collection)) (chosen : Routing)
    → Safe (named_collection list chosen) × Safe (named_location list chosen)
collection_named list (routing.Cidr ident id location) = (
  ruled (not (is_some (collection_with id list))) (refusal.NoSuchCidrCollection id) refl,
  ruled (not (bytes_eq location star || is_location_in (collection_with id list) location))
      (refusal.NoSuchCidrLocation location) refl,
)
collection_named list other = (tt, tt)

sets_safe : (checks : List (ℕ × Check)) (list : List (ℕ × Collection)) (zone : List RecordSet)
    → Safe (sets_refusal checks list zone)
sets_safe checks list zone = of_all
    (first_among (check_refusal checks) zone
    ∷ first_among (collection_refusal list) zone
    ∷ first_among (location_refusal list) zone
    ∷ first_among (target_refusal zone) zone
    ∷ first_among (depth_refusal zone) zone
    ∷ refuse_if (is_zone_full zone) refusal.ZoneFull
    ∷ []) (
      among (check_refusal checks) (λ set. check_named checks set.check) zone,
      (
        among (collection_refusal list) (λ set. (collection_named list set.routing).0) zone,
        (
          among (location_refusal list) (λ set. (collection_named list set.routing).1) zone,
          (
            among (target_refusal zone)
                (λ set. ruled (is_alias set.body && is_empty (target_group zone set))
                (refusal.AliasTargetMissing (key_of set)) refl) zone,
            (
              among (depth_refusal zone)
                  (λ set. ruled (is_too_deep zone set) (refusal.AliasTooDeep (key_of set)) refl)
                  zone,
              (ruled (is_zone_full zone) refusal.ZoneFull refl, tt),
            ),
          ),
        ),
      ),
    )

store_safe : (zones : List HostedZone) → Safe (store_refusal zones)
store_safe zones = ruled (is_store_full zones) refusal.StoreFull refl

batch_told : (config : Config) (given : Batch) (found : Option HostedZone) (why : Refusal)
    → ChangesIn config found given (Err why) → is_fault why ≡ false
batch_told config given None why e =
    subst (λ (r : Refusal). is_fault r ≡ false) (sym (same_why why refusal.NoSuchHostedZone e)) refl
batch_told config given (Some zone) why (inl (of, known, prepared, e)) =
    subst (λ (r : Refusal). is_fault r ≡ false) (sym (same_why why (of_batch of) e)) (batch_safe of)
batch_told config given (Some zone) why (inr (after, prepared, e)) = told
    (first_of (sets_refusal config.checks.list config.collections.list after
    ∷ store_refusal (with_sets config.zones zone.id after) ∷ []))
    (of_all (sets_refusal config.checks.list config.collections.list after
    ∷ store_refusal (with_sets config.zones zone.id after) ∷ []) (
      sets_safe config.checks.list config.collections.list after,
      (store_safe (with_sets config.zones zone.id after), tt),
    )) (record config { zones = with_sets config.zones zone.id after }, made.Nothing) why e

-- ---- other commands

create_safe : (config : Config) (name : List (List ℕ)) (servers : List (List (List ℕ)))
    → Safe (create_refusal config name servers)
create_safe config name servers = of_all
    (refuse_if (not (is_zone_name name)) (invalid reason.BadZoneName)
    ∷ refuse_if (is_repeated servers) (invalid reason.RepeatedValue)
    ∷ refuse_if (has_zone config.zones name) (invalid reason.ZoneExists)
    ∷ refuse_if (are_most (length config.zones)) refusal.TooManyHostedZones
    ∷ refuse_if (config.next_zone == 4294967295) refusal.IdsEnded
    ∷ store_refusal (with_zone config name servers).zones
    ∷ []) (
      ruled (not (is_zone_name name)) (invalid reason.BadZoneName) refl,
      (
        ruled (is_repeated servers) (invalid reason.RepeatedValue) refl,
        (
          ruled (has_zone config.zones name) (invalid reason.ZoneExists) refl,
          (
            ruled (are_most (length config.zones)) refusal.TooManyHostedZones refl,
            (
              ruled (config.next_zone == 4294967295) refusal.IdsEnded refl,
              (store_safe (with_zone config name servers).zones, tt),
            ),
          ),
        ),
      ),
    )

end_told : (config : Config) (found : Option HostedZone) (why : Refusal)
    → ◌≡◌ {A = Outcome} (Err why) (end_of config found) → is_fault why ≡ false
end_told config None why e =
    subst (λ (r : Refusal). is_fault r ≡ false) (sym (same_why why refusal.NoSuchHostedZone e)) refl
end_told config (Some zone) why e = told (end_refusal zone)
    (of_all (refuse_if (list_any (is_another zone.apex) zone.sets) refusal.HostedZoneNotEmpty ∷ [])
    (ruled (list_any (is_another zone.apex) zone.sets) refusal.HostedZoneNotEmpty refl, tt))
    (record config { zones = without_zone config.zones zone.id }, made.Nothing) why e

check_safe : (found : Option CheckRefusal) → Safe (option_map of_check found)
check_safe None = tt
check_safe (Some check.ChildRepeated) = refl
check_safe (Some check.ChildTooDeep) = refl
check_safe (Some check.WrongMember) = refl
check_safe (Some (check.NoSuchHealthCheck id)) = refl
check_safe (Some (check.HealthCheckInUse id)) = refl
check_safe (Some check.TooManyHealthChecks) = refl
check_safe (Some check.IdsEnded) = refl

use_safe : (zones : List HostedZone) (given : CheckCommand) → Safe (in_use zones given)
use_safe zones (health.Create new) = tt
use_safe zones (health.Update id inverted disabled threshold children) = tt
use_safe zones (health.Delete id) =
    ruled (is_check_named id (all_sets zones)) (refusal.HealthCheckInUse id) refl

fault_safe : (why : CidrFault) → is_fault (of_fault why) ≡ false
fault_safe fault.CollectionExists = refl
fault_safe fault.BlockLength = refl
fault_safe fault.IdsEnded = refl
fault_safe fault.TooManyCidrCollections = refl
fault_safe (fault.NoSuchCidrCollection id) = refl
fault_safe fault.CidrBlockInUse = refl
fault_safe fault.TooManyCidrBlocks = refl
fault_safe fault.CidrCollectionInUse = refl
fault_safe (fault.CidrLocationInUse location) = refl
fault_safe fault.OutOfMemory = refl

cidr_told : (config : Config) (what : Made) (found : Result Stored CidrFault) (why : Refusal)
    → ◌≡◌ {A = Outcome} (Err why) (with_collections config what found) → is_fault why ≡ false
cidr_told config what (Ok after) why e =
    absurd (no_answer why (record config { collections = after }, what) e)
cidr_told config what (Err fault) why e =
    subst (λ (r : Refusal). is_fault r ≡ false) (sym (same_why why (of_fault fault) e))
    (fault_safe fault)

pub by_rules : (config : Config) (given : Command) (why : Refusal) → Decides config given (Err why)
    → is_fault why ≡ false
by_rules config (command.CreateZone name servers) why e =
    told (create_refusal config name servers) (create_safe config name servers)
    (with_zone config name servers, made.Zone config.next_zone) why e
by_rules config (command.DeleteZone id) why e =
    end_told config (zone_with config.zones id) why e
by_rules config (command.Change given) why e =
    batch_told config given (zone_with config.zones given.zone) why e
by_rules config (command.Health given) why e = told
    (first_of (option_map of_check (refusal_of config.checks given)
    ∷ in_use config.zones given ∷ []))
    (of_all (option_map of_check (refusal_of config.checks given)
    ∷ in_use config.zones given ∷ []) (
      check_safe (refusal_of config.checks given),
      (use_safe config.zones given, tt),
    )) (
      record config { checks = checks_after config.checks given },
      made_check config.checks given,
    ) why e
by_rules config (command.Cidr given) why e =
    cidr_told config (made_collection config.collections given)
    (outcome config.collections given (used_by config.zones)) why e

pub no_fault : (config : Config) (given : Command) → Applies config given (Err refusal.DiskFault)
    → ⊥
no_fault config given (inl e) =
    (let same = same_why refusal.DiskFault refusal.OutOfMemory e in grind (arith, same))
no_fault config given (inr decides) =
    false≢true (sym (by_rules config given refusal.DiskFault decides))
