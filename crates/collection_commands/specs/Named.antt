-- What some sets name.
use Rattle.std.specs.Prelude.{ℕ, List}
use Rattle.std.specs.List.{filter_map}
use Rattle.config_zones.specs.Others.{named_by}
use Rattle.record_set.specs.declared.sets.RecordSet.{RecordSet}

-- the collections and the locations that these sets name
abbrev pub named_in : List RecordSet → List (ℕ × List ℕ)
named_in sets = filter_map (λ (set : RecordSet). named_by set.routing) sets
