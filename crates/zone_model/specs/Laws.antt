-- Laws on sets in zone order.
use Rattle.std.specs.Prelude.{List}
use Rattle.record_set.specs.declared.sets.RecordSet.{RecordSet}
use Rattle.zone_model.specs.Placing.{placed}
use Rattle.zone_model.specs.Zones.{IsRising}

-- Sets stay in zone order where one is placed among them.
abbrev pub PlacedRise : Type 0
PlacedRise = (set : RecordSet) (sets : List RecordSet) → IsRising sets → IsRising (placed set sets)
