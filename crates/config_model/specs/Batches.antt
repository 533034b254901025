-- What a batch makes of a zone, or its first refusal (API Reference, ChangeResourceRecordSets).
--
-- It is tested by itself, its changes are applied in their order, and the zone is looked at once
-- after the last of them (own). Of several sets of which one refusal holds the first in zone order
-- is told.
use Rattle.std.specs.Prelude.{◌≡◌, ◌≢◌, ℕ, zero, suc, Bool, true, false, not, ◌&&◌, ◌||◌, nat_lt}
use Rattle.std.specs.Prelude.{◌⊎◌, List, [], ◌∷◌, length, map, Option, None, Some, is_some}
use Rattle.std.specs.Prelude.{Result, Ok, Err}
use Rattle.std.specs.List.{list_any, sum_by}
use Rattle.std.specs.Str.{bytes_eq}
use Rattle.command_octets.specs.Batches.{Prepares}
use Rattle.command_octets.specs.BatchRecord.{Batch}
use Rattle.command_octets.specs.BatchRefusalRecord.{BatchRefusal}
use Rattle.command_octets.specs.BatchRefusalRecord.TheVariants as refused
use Rattle.check_model.specs.Commands.{is_there}
use Rattle.check_model.specs.declared.checks.Check.{Check}
use Rattle.command_octets.specs.Idents.{star}
use Rattle.command_octets.specs.Places.{names_of}
use Rattle.command_octets.specs.CollectionRecord.{Collection}
use Rattle.command_octets.specs.Stored.{collection_with}
use Rattle.set_reading.specs.SetsOfRecordSet.{key_of}
use Rattle.set_reading.specs.BodyRecord.{Body}
use Rattle.set_reading.specs.BodyRecord.TheVariants as body
use Rattle.set_reading.specs.RecordSetRecord.{RecordSet}
use Rattle.set_reading.specs.RoutingRecord.{Routing}
use Rattle.set_reading.specs.RoutingRecord.TheVariants as routing
use Rattle.command_octets.specs.Hosted.{HostedZone}
use Rattle.command_octets.specs.Zones.{target_group}
use Rattle.config_model.specs.Configs.{Config, count_of, octets_of, with_sets, zone_with}
use Rattle.config_model.specs.Telling.{first_of, of_batch, refuse_if, unless}
use Rattle.config_model.specs.declared.refusals.Made.{Made}
use Rattle.config_model.specs.declared.refusals.Made.TheVariants as made
use Rattle.config_model.specs.declared.refusals.Refusal.{Refusal}
use Rattle.config_model.specs.declared.refusals.Refusal.TheVariants as refusal

-- ---- what is looked at after the last change

-- the first refusal of sets, in their order
abbrev pub first_among : (RecordSet → Option Refusal) → List RecordSet → Option Refusal
first_among refuses sets = first_of (map refuses sets)

-- a set names a check that isn't there
abbrev pub named_check : List (ℕ × Check) → Option ℕ → Option Refusal
named_check checks None = None
named_check checks (Some id) = refuse_if (not (is_there checks id)) (refusal.NoSuchHealthCheck id)

abbrev pub check_refusal : List (ℕ × Check) → RecordSet → Option Refusal
check_refusal checks set = named_check checks set.check

-- or a collection that isn't there
abbrev pub named_collection : List (ℕ × Collection) → Routing → Option Refusal
named_collection list (routing.Cidr ident id location) =
    refuse_if (not (is_some (collection_with id list))) (refusal.NoSuchCidrCollection id)
named_collection list other = None

abbrev pub collection_refusal : List (ℕ × Collection) → RecordSet → Option Refusal
collection_refusal list set = named_collection list set.routing

-- or a location other than `*` that has no block there
abbrev pub is_location_in : Option Collection → (location : List ℕ) → Bool
is_location_in None location = false
is_location_in (Some collection) location =
    list_any (bytes_eq location) (names_of collection.locations)

abbrev pub named_location : List (ℕ × Collection) → Routing → Option Refusal
named_location list (routing.Cidr ident id location) =
    refuse_if (not (bytes_eq location star || is_location_in (collection_with id list) location))
    (refusal.NoSuchCidrLocation location)
named_location list other = None

abbrev pub location_refusal : List (ℕ × Collection) → RecordSet → Option Refusal
location_refusal list set = named_location list set.routing

-- an alias whose target group is empty
abbrev pub is_alias : Body → Bool
is_alias (body.Values ttl values) = false
is_alias (body.Alias target evaluate) = true

abbrev pub is_empty : List RecordSet → Bool
is_empty [] = true
is_empty (set ∷ sets) = false

abbrev pub target_refusal : (zone : List RecordSet) → RecordSet → Option Refusal
target_refusal zone set =
    refuse_if (is_alias set.body && is_empty (target_group zone set))
    (refusal.AliasTargetMissing (key_of set))

-- A walk of alias links starts at a set, which leads on so many times from an alias to a set of its
-- target group that is an alias too, evaluated or not.
abbrev pub leads_on : (times : ℕ) → (zone : List RecordSet) → RecordSet → Bool
leads_on zero zone set = is_alias set.body
leads_on (suc times) zone set = list_any (leads_on times zone) (target_group zone set)

-- a walk of 17 links (own)
unfoldable pub is_too_deep : (zone : List RecordSet) → RecordSet → Bool
is_too_deep zone set = leads_on 16 zone set

abbrev pub depth_refusal : (zone : List RecordSet) → RecordSet → Option Refusal
depth_refusal zone set = refuse_if (is_too_deep zone set) (refusal.AliasTooDeep (key_of set))

-- more than 10,000 sets in a zone (Route 53 quotas)
abbrev pub is_over_zone : (sets : ℕ) → Bool
is_over_zone sets = nat_lt 10000 sets

abbrev pub is_zone_full : List RecordSet → Bool
is_zone_full zone = is_over_zone (length zone)

-- The first refusal of the sets of a zone, beside these checks and collections.
abbrev pub sets_refusal : List (ℕ × Check) → List (ℕ × Collection) → List RecordSet
    → Option Refusal
sets_refusal checks collections zone = first_of (
    first_among (check_refusal checks) zone
    ∷ first_among (collection_refusal collections) zone
    ∷ first_among (location_refusal collections) zone
    ∷ first_among (target_refusal zone) zone
    ∷ first_among (depth_refusal zone) zone
    ∷ refuse_if (is_zone_full zone) refusal.ZoneFull
    ∷ [])

-- more than 100,000 sets, or more than 67,108,864 octets of sets, in all zones (own)
abbrev pub is_over : (sets octets : ℕ) → Bool
is_over sets octets = nat_lt 100000 sets || nat_lt 67108864 octets

abbrev pub is_store_full : List HostedZone → Bool
is_store_full zones = is_over (sum_by count_of zones) (sum_by octets_of zones)

abbrev pub store_refusal : List HostedZone → Option Refusal
store_refusal zones = refuse_if (is_store_full zones) refusal.StoreFull

-- ---- a batch

-- the zones, where the one of a number has these sets, or the first refusal of that
abbrev pub changed_zones : Config → (id : ℕ) → (after : List RecordSet)
    → Result (Config × Made) Refusal
changed_zones config id after = unless
    (first_of (
    sets_refusal config.checks.list config.collections.list after
    ∷ store_refusal (with_sets config.zones id after)
    ∷ []))
    (record config { zones = with_sets config.zones id after }, made.Nothing)

-- A batch on a zone: it is refused by itself or at one of its changes, or makes sets of it. Want of
-- memory is no such refusal.
abbrev pub ChangesZone : Config → HostedZone → Batch → Result (Config × Made) Refusal → Type 0
ChangesZone config zone batch answer =
    ((why : BatchRefusal) × (why ≢ refused.OutOfMemory)
    × Prepares zone.sets zone.apex batch.changes (Err why) × (answer ≡ Err (of_batch why)))
    ⊎ ((after : List RecordSet) × Prepares zone.sets zone.apex batch.changes (Ok after)
    × (answer ≡ changed_zones config zone.id after))

-- a batch on the zone of its number, if there is one
abbrev pub ChangesIn : Config → Option HostedZone → Batch → Result (Config × Made) Refusal → Type 0
ChangesIn config None batch answer = answer ≡ Err refusal.NoSuchHostedZone
ChangesIn config (Some zone) batch answer = ChangesZone config zone batch answer

abbrev pub AppliesBatch : Config → Batch → Result (Config × Made) Refusal → Type 0
AppliesBatch config batch answer =
    ChangesIn config (zone_with config.zones batch.zone) batch answer
