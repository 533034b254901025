-- When a configuration is sound.
use Rattle.std.specs.Prelude.{◌≡◌, ◌≢◌, ◌≤◌, ◌<◌, ℕ, List, [], ◌∷◌, length, None, true, ⊤}
use Rattle.std.specs.List.{AllByRecursion}
use Rattle.command_octets.specs.Rules.{MeetsAll, rules}
use Rattle.check_model.specs.Checks.{IsSound as AreSoundChecks}
use Rattle.check_model.specs.declared.checks.Check.{Check}
use Rattle.command_octets.specs.CollectionRecord.{Collection}
use Rattle.command_octets.specs.Stored.{IsSound as AreSoundCollections}
use Rattle.set_reading.specs.RTypeRecord.TheVariants.{Ns, Soa}
use Rattle.set_reading.specs.Reasons.{IsFirst}
use Rattle.set_reading.specs.SetKeyRecord.{SetKey}
use Rattle.set_reading.specs.Octets.{HasSpelling}
use Rattle.set_reading.specs.Sets.{IsSet}
use Rattle.command_octets.specs.Hosted.{HostedZone}
use Rattle.command_octets.specs.Placing.{IsThere}
use Rattle.command_octets.specs.Zones.{IsZone}
use Rattle.config_model.specs.Batches.{sets_refusal, store_refusal}
use Rattle.config_model.specs.Configs.{Config}
use Rattle.config_model.specs.NewZones.{is_zone_name}

-- the keys of the sets that a zone always has (API Reference, CreateHostedZone)
abbrev pub ns_key : (apex : List (List ℕ)) → SetKey
ns_key apex = record { name = apex; rtype = Ns; ident = None }

abbrev pub soa_key : (apex : List (List ℕ)) → SetKey
soa_key apex = record { name = apex; rtype = Soa; ident = None }

-- A sound zone, beside these checks and collections.
pub record IsSoundZone (checks : List (ℕ × Check)) (collections : List (ℕ × Collection))
    (zone : HostedZone) : Type 0 where
  pub name : is_zone_name zone.apex ≡ true
  -- in zone order with distinct keys, and each set is in the zone
  pub sets : IsZone zone.sets zone.apex
  pub ns : IsThere zone.sets (ns_key zone.apex)
  pub soa : IsThere zone.sets (soa_key zone.apex)
  -- each set is made of names, identifiers, places and values as sets are, is allowed by itself,
  -- and has a spelling in at most 65,536 octets
  pub parts : AllByRecursion IsSet zone.sets
  pub allowed : AllByRecursion (λ set. IsFirst None set zone.apex) zone.sets
  pub spelled : AllByRecursion HasSpelling zone.sets
  -- the sets meet the rules for groups and names
  pub rules : MeetsAll rules zone.sets zone.apex
  -- what they name is there, aliases lead to sets and not too far, and they aren't too many
  pub last : sets_refusal checks collections zone.sets ≡ None

-- The zones stand by rising number, and no two of them have one name.
abbrev pub AreListed : List HostedZone → Type 0
AreListed [] = ⊤
AreListed (zone ∷ zones) =
    AllByRecursion (λ other. (zone.id < other.id) × (zone.apex ≢ other.apex)) zones
    × AreListed zones

-- A sound configuration. Numbers are at least 1 and below the next one, which is at most
-- 4,294,967,295; there are at most 500 zones (Route 53 quotas).
pub record Sound (config : Config) : Type 0 where
  pub checks : AreSoundChecks config.checks
  pub collections : AreSoundCollections config.collections
  pub from : 1 ≤ config.next_zone
  pub to : config.next_zone ≤ 4294967295
  pub numbers : AllByRecursion (λ zone. (1 ≤ zone.id) × (zone.id < config.next_zone)) config.zones
  pub listed : AreListed config.zones
  pub few : length config.zones ≤ 500
  pub each : AllByRecursion (IsSoundZone config.checks.list config.collections.list) config.zones
  pub not_full : store_refusal config.zones ≡ None
