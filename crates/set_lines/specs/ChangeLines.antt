-- The line ChangeResourceRecordSets (API Reference, ChangeBatch and Change).
use Rattle.std.specs.Prelude.{ℕ, List, [], ◌∷◌, codes, if◌then◌else◌, Option, None, Some, Result, Ok}
use Rattle.std.specs.Str.{bytes_eq}
use Rattle.serde_json.specs.Data.{Data}
use Rattle.line_reading.specs.Reading.{◌>>=◌, object, required, each, in_change}
use Rattle.line_reading.specs.Kinds.{text, list, one_of_texts, id_of, without_prefix}
use Rattle.line_faults.specs.declared.member.Member.{Member}
use Rattle.line_faults.specs.declared.member.Member.TheVariants as m
use Rattle.line_faults.specs.declared.fault.LineFault.{LineFault}
use Rattle.batch_model.specs.declared.batches.Action.{Action}
use Rattle.batch_model.specs.declared.batches.Action.TheVariants as action
use Rattle.batch_model.specs.declared.batches.Batch.{Batch}
use Rattle.batch_model.specs.declared.batches.Change.{Change}
use Rattle.set_lines.specs.Sets.{resource_record_set}

abbrev pub action_of : List ℕ → Option Action
action_of s =
    if bytes_eq s (codes "CREATE") then Some action.Create
    else if bytes_eq s (codes "DELETE") then Some action.Delete
    else if bytes_eq s (codes "UPSERT") then Some action.Upsert
    else None

unfoldable pub change : (zone : List ℕ) → Member → Data → Result Change LineFault
change zone h o = do
  _ ← object h [] (m.Action ∷ m.ResourceRecordSet ∷ []) o
  act ← required m.Action (one_of_texts action_of) o
  counted ← required m.ResourceRecordSet (resource_record_set zone) o
  Ok (record { action = act; characters = counted.characters; set = counted.set })

-- Faults in a change are told with its index, also where it is no object.
unfoldable pub changes : (zone : List ℕ) → Member → Data → Result (List Change) LineFault
changes zone h d = list 0 65535 h d >>= each (λ k o. in_change k (change zone h o)) 0

unfoldable pub change_batch : (zone : List ℕ) → Member → Data → Result (List Change) LineFault
change_batch zone h o = do
  _ ← object h [] (m.Comment ∷ m.Changes ∷ []) o
  required m.Changes (changes zone) o

unfoldable pub change_sets : Data → Result Batch LineFault
change_sets o = do
  _ ← object m.ChangeResourceRecordSets [] (m.HostedZoneId ∷ m.ChangeBatch ∷ []) o
  zone ← required m.HostedZoneId text o
  list ← required m.ChangeBatch (change_batch zone) o
  Ok (record { zone = id_of 90 (without_prefix zone); changes = list })
