-- Commands by hand, and each kind of fault.
use Rattle.std.proofs.Common.{◌≡◌, ℕ, List, [], ◌∷◌, ◌++◌, take, map, refl, None, Result, Ok, Err}
use Rattle.set_reading.specs.RTypeRecord.TheVariants as rtype
use Rattle.set_reading.specs.RoutingRecord.TheVariants as routing
use Rattle.set_reading.specs.RecordSetRecord.{RecordSet}
use Rattle.set_reading.specs.BodyRecord.TheVariants as body
use Rattle.command_octets.specs.ActionRecord.TheVariants as action
use Rattle.set_reading.specs.Layouts.{is_layout}
use Rattle.set_reading.specs.NamesOfOctetReading.{name_at}
use Rattle.set_reading.specs.Numbers.{type_of_number, type_at, continent_at, role_at, ttl_at}
use Rattle.set_reading.specs.Readers.{text_at}
use Rattle.set_reading.specs.Texts.{country_at}
use Rattle.set_reading.specs.Reading.{subdivision_at, place_at, weighted_at, failover_at, geolocation_at, latency_at, multivalue_at, routing_at, value_at, records_at, alias_at, body_at, check_at}
use Rattle.set_reading.specs.Reading as sets
use Rattle.command_octets.specs.declared.commands.Command.{Command}
use Rattle.command_octets.specs.declared.commands.Command.TheVariants as command
use Rattle.command_octets.specs.Octets.{command_octets}
use Rattle.command_codec.specs.Reading.{version_at, servers_at, create_at, delete_at, action_at, behind_set, set_at, change_at, batch_at, command_at, versioned_at, read}

-- example.com, with the servers a, b, c and d; 27 octets
abbrev create : Command
create = command.CreateZone ((0x65 ∷ 0x78 ∷ 0x61 ∷ 0x6D ∷ 0x70 ∷ 0x6C ∷ 0x65 ∷ [])
    ∷ (0x63 ∷ 0x6F ∷ 0x6D ∷ []) ∷ []) (((0x61 ∷ []) ∷ []) ∷ ((0x62 ∷ []) ∷ []) ∷ ((0x63 ∷ []) ∷ [])
    ∷ ((0x64 ∷ []) ∷ []) ∷ [])

abbrev create_octets : List ℕ
create_octets = 2 ∷ 1 ∷ 7 ∷ 0x65 ∷ 0x78 ∷ 0x61 ∷ 0x6D ∷ 0x70 ∷ 0x6C ∷ 0x65 ∷ 3 ∷ 0x63 ∷ 0x6F ∷ 0x6D
    ∷ 0 ∷ 1 ∷ 0x61 ∷ 0 ∷ 1 ∷ 0x62 ∷ 0 ∷ 1 ∷ 0x63 ∷ 0 ∷ 1 ∷ 0x64 ∷ 0 ∷ []

pub create_is_written : command_octets create ≡ create_octets
create_is_written = refl

pub create_is_read : read create_octets ≡ Ok create
unfolding read versioned_at version_at command_at create_at delete_at batch_at servers_at name_at
create_is_read = refl

-- zones 7 and 16909060
pub deletes_are_written : map command_octets (command.DeleteZone 7 ∷ command.DeleteZone 16909060
    ∷ []) ≡ (2 ∷ 2 ∷ 0 ∷ 0 ∷ 0 ∷ 7 ∷ []) ∷ (2 ∷ 2 ∷ 1 ∷ 2 ∷ 3 ∷ 4 ∷ []) ∷ []
deletes_are_written = refl

-- in either version
pub delete_is_read : map read ((1 ∷ 2 ∷ 1 ∷ 2 ∷ 3 ∷ 4 ∷ []) ∷ (2 ∷ 2 ∷ 1 ∷ 2 ∷ 3 ∷ 4 ∷ []) ∷ [])
    ≡ Ok (command.DeleteZone 16909060) ∷ Ok (command.DeleteZone 16909060) ∷ []
unfolding read versioned_at version_at command_at create_at delete_at batch_at
delete_is_read = refl

-- www.example.com A 192.0.2.1, simple, with a time to live of 300; 34 octets
abbrev simple : RecordSet
simple = record {
  name = (0x77 ∷ 0x77 ∷ 0x77 ∷ []) ∷ (0x65 ∷ 0x78 ∷ 0x61 ∷ 0x6D ∷ 0x70 ∷ 0x6C ∷ 0x65 ∷ [])
      ∷ (0x63 ∷ 0x6F ∷ 0x6D ∷ []) ∷ [];
  rtype = rtype.A;
  routing = routing.Simple;
  body = body.Values 300 (record { rtype = rtype.A; wire = 192 ∷ 0 ∷ 2 ∷ 1 ∷ [] } ∷ []);
  check = None;
}

-- zone 5: UPSERT of this set, whose value has nine characters; 47 octets, the set from 13 on
abbrev upsert : Command
upsert = command.Change
    (record {
      zone = 5;
      changes =
          record { action = action.Upsert; characters = 9; set = simple } ∷ [];
    })

-- the version, the kind, the zone and the count of one
abbrev batch_of_one : List ℕ
batch_of_one = 2 ∷ 3 ∷ 0 ∷ 0 ∷ 0 ∷ 5 ∷ 0 ∷ 1 ∷ []

abbrev upsert_octets : List ℕ
upsert_octets =
    batch_of_one ++ 3 ∷ 0 ∷ 0 ∷ 0 ∷ 9 ∷ 3 ∷ 0x77 ∷ 0x77 ∷ 0x77 ∷ 7 ∷ 0x65 ∷ 0x78 ∷ 0x61 ∷ 0x6D
    ∷ 0x70 ∷ 0x6C ∷ 0x65 ∷ 3 ∷ 0x63 ∷ 0x6F ∷ 0x6D ∷ 0
    ∷ 0 ∷ 1 ∷ 0 ∷ 0 ∷ 0 ∷ 0 ∷ 1 ∷ 0x2C ∷ 0 ∷ 1 ∷ 0 ∷ 4 ∷ 192 ∷ 0 ∷ 2 ∷ 1 ∷ 0 ∷ []

pub upsert_is_written : command_octets upsert ≡ upsert_octets
upsert_is_written = refl

pub upsert_is_read : read upsert_octets ≡ Ok upsert
unfolding read versioned_at version_at command_at create_at delete_at batch_at change_at action_at
    set_at sets.read sets.set_at name_at type_at type_of_number routing_at weighted_at failover_at
    geolocation_at latency_at multivalue_at place_at subdivision_at country_at continent_at role_at
    text_at body_at records_at alias_at ttl_at value_at is_layout check_at
upsert_is_read = refl

-- a A, simple, without values, which is in the grammar; 14 octets
abbrev bare : RecordSet
bare = record {
  name = (0x61 ∷ []) ∷ [];
  rtype = rtype.A;
  routing = routing.Simple;
  body =
      body.Values 0 [];
  check = None;
}

abbrev bare_octets : List ℕ
bare_octets = 1 ∷ 0x61 ∷ 0 ∷ 0 ∷ 1 ∷ 0 ∷ 0 ∷ 0 ∷ 0 ∷ 0 ∷ 0 ∷ 0 ∷ 0 ∷ 0 ∷ []

-- zone 258: DELETE, then CREATE
abbrev two_changes : Command
two_changes =
    command.Change
    (record {
      zone = 258;
      changes =
          record { action = action.Delete; characters = 0; set = bare }
          ∷ record { action = action.Create; characters = 65537; set = bare } ∷ [];
    })

abbrev two_changes_octets : List ℕ
two_changes_octets =
    2 ∷ 3 ∷ 0 ∷ 0 ∷ 1 ∷ 2 ∷ 0 ∷ 2 ∷ 2 ∷ 0 ∷ 0 ∷ 0 ∷ 0
    ∷ (bare_octets ++ 1 ∷ 0 ∷ 1 ∷ 0 ∷ 1 ∷ bare_octets)

pub two_changes_are_written : command_octets two_changes ≡ two_changes_octets
two_changes_are_written = refl

pub two_changes_are_read : read two_changes_octets ≡ Ok two_changes
unfolding read versioned_at version_at command_at create_at delete_at batch_at change_at action_at
    set_at sets.read sets.set_at name_at type_at type_of_number routing_at weighted_at failover_at
    geolocation_at latency_at multivalue_at place_at subdivision_at country_at continent_at role_at
    text_at body_at records_at alias_at ttl_at value_at is_layout check_at
two_changes_are_read = refl

-- no changes at all are in the grammar
pub no_changes : read (1 ∷ 3 ∷ 0 ∷ 0 ∷ 0 ∷ 5 ∷ 0 ∷ 0 ∷ [])
    ≡ Ok (command.Change (record { zone = 5; changes = [] }))
unfolding read versioned_at version_at command_at create_at delete_at batch_at
no_changes = refl

abbrev places : List (List ℕ) → List (Result Command ℕ)
places octets = map read octets

-- versions: none, 0 and 3; kinds: none, 0 and 10
pub faults_in_kinds : places ([] ∷ (0 ∷ 2 ∷ []) ∷ (3 ∷ 2 ∷ 0 ∷ 0 ∷ 0 ∷ 7 ∷ []) ∷ (1 ∷ [])
    ∷ (1 ∷ 0 ∷ []) ∷ (2 ∷ 10 ∷ 0 ∷ []) ∷ []) ≡ Err 0 ∷ Err 0 ∷ Err 0 ∷ Err 1 ∷ Err 1 ∷ Err 1 ∷ []
unfolding read versioned_at version_at command_at create_at delete_at batch_at
faults_in_kinds = refl

-- names: a capital letter in the zone's; the zone's cut off; a pointer for the second server; the
-- fourth server missing; an
-- octet behind the fourth
pub faults_in_names : places ((1 ∷ 1 ∷ 1 ∷ 0x41 ∷ 0 ∷ []) ∷ take 14 create_octets
    ∷ (take 18 create_octets ++ 0xC0 ∷ 2 ∷ []) ∷ take 24 create_octets ∷ (create_octets ++ 0 ∷ [])
    ∷ []) ≡ Err 2 ∷ Err 14 ∷ Err 18 ∷ Err 24 ∷ Err 27 ∷ []
unfolding read versioned_at version_at command_at create_at delete_at batch_at servers_at name_at
faults_in_names = refl

-- zones: three octets of the number; two octets behind it
pub faults_in_zones : places ((1 ∷ 2 ∷ 0 ∷ 0 ∷ 7 ∷ []) ∷ (1 ∷ 2 ∷ 0 ∷ 0 ∷ 0 ∷ 7 ∷ 9 ∷ 9 ∷ [])
    ∷ (1 ∷ 3 ∷ 0 ∷ 0 ∷ 0 ∷ []) ∷ []) ≡ Err 5 ∷ Err 6 ∷ Err 5 ∷ []
unfolding read versioned_at version_at command_at create_at delete_at batch_at
faults_in_zones = refl

-- changes: one octet of the count; none of one; the actions 0 and 4; three octets of the
-- characters; no set; the type 0 of
-- the set; the last octet missing; an octet behind the last change
pub faults_in_changes : places (take 7 upsert_octets ∷ batch_of_one ∷ (batch_of_one ++ 0 ∷ [])
    ∷ (batch_of_one ++ 4 ∷ 0 ∷ 0 ∷ 0 ∷ []) ∷ take 12 upsert_octets ∷ take 13 upsert_octets
    ∷ (take 30 upsert_octets ++ 0 ∷ 0 ∷ 0 ∷ []) ∷ take 46 upsert_octets
    ∷ (upsert_octets ++ 1 ∷ 2 ∷ []) ∷ [])
    ≡ Err 7 ∷ Err 8 ∷ Err 8 ∷ Err 8 ∷ Err 12 ∷ Err 13 ∷ Err 30 ∷ Err 46 ∷ Err 47 ∷ []
unfolding read versioned_at version_at command_at create_at delete_at batch_at change_at action_at
    set_at sets.read sets.set_at name_at type_at type_of_number routing_at weighted_at failover_at
    geolocation_at latency_at multivalue_at place_at subdivision_at country_at continent_at role_at
    text_at body_at records_at alias_at ttl_at value_at is_layout check_at
faults_in_changes = refl

-- a set of 65,537 octets is faulty from its first one on, and a set of 65,536 is not
pub longest : (behind_set (7 ∷ 8 ∷ 9 ∷ []) (sets.by_place 65537 (Ok (simple, []))) ≡ Err 3)
    × (behind_set [] (sets.by_place 65536 (Ok (simple, []))) ≡ Ok (simple, []))
longest = (refl, refl)
