-- The text of a dump: a line for each health check by rising number; then one for each collection by
-- rising number; then for each zone by rising number its line, with those of its sets in zone order
-- behind it (own). In a configuration each of these lists stands so.
use Rattle.std.specs.Prelude.{ℕ, List, ◌++◌}
use Rattle.std.specs.List.{flat_map}
use Rattle.check_model.specs.declared.checks.Check.{Check}
use Rattle.cidr_blocks.specs.declared.places.Collection.{Collection}
use Rattle.config_zones.specs.Configs.{Config}
use Rattle.record_set.specs.declared.sets.RecordSet.{RecordSet}
use Rattle.dump_writing.specs.DumpOfReplyModel.{check_line, collection_line, set_line, zone_line}
use Rattle.zone_model.specs.Hosted.{HostedZone}

-- the line of a health check of a number
abbrev pub check_text : ℕ × Check → List ℕ
check_text held = check_line held.0 held.1

-- the line of a collection of a number
abbrev pub collection_text : ℕ × Collection → List ℕ
collection_text held = collection_line held.0 held.1

abbrev pub checks_text : List (ℕ × Check) → List ℕ
checks_text checks = flat_map check_text checks

abbrev pub collections_text : List (ℕ × Collection) → List ℕ
collections_text collections = flat_map collection_text collections

-- the lines of sets of a zone
abbrev pub sets_text : (zone : ℕ) → List RecordSet → List ℕ
sets_text zone sets = flat_map (set_line zone) sets

-- the line of a zone, and those of its sets
abbrev pub hosted_text : HostedZone → List ℕ
hosted_text zone = zone_line zone.id zone.apex ++ sets_text zone.id zone.sets

abbrev pub zones_text : List HostedZone → List ℕ
zones_text zones = flat_map hosted_text zones

-- all lines of a dump of a configuration
abbrev pub dump_text : Config → List ℕ
dump_text config =
    checks_text config.checks.list
    ++ (collections_text config.collections.list ++ zones_text config.zones)
