-- How many octets sets have.
use Rattle.std.specs.Prelude.{ℕ, List, length}
use Rattle.std.specs.List.{sum_by}
use Rattle.record_set.specs.declared.sets.RecordSet.{RecordSet}
use Rattle.config_zones.specs.Octets.{set_octets}

abbrev pub octets_in : List RecordSet → ℕ
octets_in sets = sum_by (λ set. length (set_octets set)) sets
