-- How the refusal of a change is told of its batch, and what a batch answers.
use Rattle.std.specs.Prelude.{ℕ, List, Result, Ok, Err, Vec}
use Rattle.std.specs.declared.alloc.Global.{Global}
use Rattle.zone_model.specs.RecordSetRecord.{RecordSet}
use Rattle.batch_model.specs.declared.refusals.BatchRefusal.{BatchRefusal}
use Rattle.batch_model.specs.declared.refusals.BatchRefusal.TheVariants as batch
use Rattle.batch_model.specs.declared.refusals.ChangeRefusal.{ChangeRefusal}
use Rattle.batch_model.specs.declared.refusals.ChangeRefusal.TheVariants as refusal

-- the refusal of the change at a place
abbrev pub refusal_at : ℕ → ChangeRefusal → BatchRefusal
refusal_at i refusal.NotInZone = batch.NotInZone i
refusal_at i refusal.AlreadyExists = batch.AlreadyExists i
refusal_at i refusal.NotFound = batch.NotFound i
refusal_at i refusal.ValuesDiffer = batch.ValuesDiffer i
refusal_at i refusal.ApexProtected = batch.ApexProtected i
refusal_at i refusal.OutOfMemory = batch.OutOfMemory

-- an answer with the sets as a list
abbrev pub with_items : Result (Vec RecordSet Global) BatchRefusal → Result (List RecordSet) BatchRefusal
with_items (Ok sets) = Ok sets.items
with_items (Err why) = Err why
