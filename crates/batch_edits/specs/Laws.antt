-- A batch makes one edit.
use Rattle.std.specs.Prelude.{◌≡◌, ◌≢◌, ℕ, List, Result, Err}
use Rattle.change_batch.specs.ChangeRecord.{Change}
use Rattle.change_batch.specs.BatchRefusalRecord.{BatchRefusal}
use Rattle.change_batch.specs.BatchRefusalRecord.TheVariants as batch
use Rattle.batch_names.specs.AllZones.{Zone}
use Rattle.batch_edits.specs.Edits.{EditsOrNot}
use Rattle.batch_edits.specs.declared.editing.Edit.{Edit}

-- A batch makes one edit of a zone, or has one refusal, but for want of memory.
abbrev pub OneBatchEdit : Type 0
OneBatchEdit =
    (zones : List Zone) (zone : ℕ) (apex : List (List ℕ)) (changes : List Change)
    (answer other : Result Edit BatchRefusal)
    → EditsOrNot zones zone apex changes answer → EditsOrNot zones zone apex changes other
    → answer ≢ Err batch.OutOfMemory → other ≢ Err batch.OutOfMemory → answer ≡ other
