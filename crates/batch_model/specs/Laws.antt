-- Laws over the definitions of this crate.
use Rattle.std.specs.Prelude.{◌≡◌, ◌≢◌, ℕ, List, Result, Ok, Err}
use Rattle.zone_model.specs.RecordSetRecord.{RecordSet}
use Rattle.batch_model.specs.declared.batches.Change.{Change}
use Rattle.batch_model.specs.declared.refusals.BatchRefusal.{BatchRefusal}
use Rattle.batch_model.specs.declared.refusals.BatchRefusal.TheVariants as batch
use Rattle.batch_model.specs.Batches.{Prepares}
use Rattle.batch_model.specs.Changing.{Applies}
use Rattle.zone_model.specs.Zones.{IsZone}

-- A batch has one answer, but for want of memory.
abbrev pub OneBatchOutcome : Type 0
OneBatchOutcome =
    (sets : List RecordSet) (apex : List (List ℕ)) (changes : List Change) (answer other : Result (List RecordSet) BatchRefusal)
    → Prepares sets apex changes answer → Prepares sets apex changes other
    → answer ≢ Err batch.OutOfMemory → other ≢ Err batch.OutOfMemory → answer ≡ other

-- The sets after a change to those of a zone are those of a zone.
abbrev pub ZonesStay : Type 0
ZonesStay =
    (sets : List RecordSet) (apex : List (List ℕ)) (change : Change) (after : List RecordSet)
    → IsZone sets apex → Applies sets apex change (Ok after) → IsZone after apex
