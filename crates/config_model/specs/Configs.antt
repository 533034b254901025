-- Configurations: the hosted zones, the health checks and the collections of a server.
use Rattle.std.specs.Prelude.{ℕ, ◌==◌, not, List, [], map, length, Option, if◌then◌else◌}
use Rattle.std.specs.List.{filter, find, flat_map, sum_by}
use Rattle.check_model.specs.Checks.{Checks}
use Rattle.command_octets.specs.Stored.{Stored}
use Rattle.set_reading.specs.RecordSetRecord.{RecordSet}
use Rattle.set_reading.specs.Octets.{set_octets}
use Rattle.command_octets.specs.Hosted.{HostedZone}

-- The zones by rising numbers and the number that the next one gets; the checks and the collections
-- likewise.
pub record Config : Type 0 where
  pub zones : List HostedZone
  pub next_zone : ℕ
  pub checks : Checks
  pub collections : Stored

-- nothing yet: the first zone, check and collection get number 1
abbrev pub empty : Config
empty = record {
  zones = [];
  next_zone = 1;
  checks = record { next = 1; list = [] };
  collections = record { next = 1; list = [] };
}

-- the zone of a number
abbrev pub zone_with : List HostedZone → ℕ → Option HostedZone
zone_with zones id = find (λ (zone : HostedZone). zone.id == id) zones

-- a zone, with these sets where it has the number
abbrev pub with_sets_at : ℕ → List RecordSet → HostedZone → HostedZone
with_sets_at id sets zone = if zone.id == id then record zone { sets = sets } else zone

-- the zones, with these sets in the one of a number
abbrev pub with_sets : List HostedZone → ℕ → List RecordSet → List HostedZone
with_sets zones id sets = map (with_sets_at id sets) zones

-- the zones without the one of a number
abbrev pub without_zone : List HostedZone → ℕ → List HostedZone
without_zone zones id = filter (λ (zone : HostedZone). not (zone.id == id)) zones

-- the sets of all zones
abbrev pub all_sets : List HostedZone → List RecordSet
all_sets zones = flat_map (λ (zone : HostedZone). zone.sets) zones

-- how many sets a zone has, and how many octets these
abbrev pub count_of : HostedZone → ℕ
count_of zone = length zone.sets

abbrev pub octets_of : HostedZone → ℕ
octets_of zone = sum_by (λ set. length (set_octets set)) zone.sets
