-- A change leaves a zone a zone.
use Rattle.std.proofs.Common.{ℕ, List, sym, subst}
use Rattle.std.specs.Prelude.{Ok}
use Rattle.zone_model.specs.Suffix.{EndsWith}
use Rattle.zone_model.specs.RecordSetRecord.{RecordSet}
use Rattle.zone_model.specs.Zones.{IsZone}
use Rattle.zone_model.proofs.Staying.{placed_zone, without_zone}
use Rattle.batch_model.specs.declared.batches.Action.{Action}
use Rattle.batch_model.specs.declared.batches.Action.TheVariants as action
use Rattle.batch_model.specs.declared.batches.Change.{Change}
use Rattle.batch_model.specs.Changing.{Makes, Applies}

made_zone : (which : Action) (given : RecordSet) (sets : List RecordSet) (apex : List (List ℕ))
    (after : List RecordSet)
    → EndsWith given.name apex → IsZone sets apex → Makes which given sets apex after
    → IsZone after apex
made_zone action.Create given sets apex after inside zone h =
    subst (λ s. IsZone s apex) (sym h.1) (placed_zone given sets apex inside zone)
made_zone action.Delete given sets apex after inside zone h =
    subst (λ s. IsZone s apex) (sym h.2) (without_zone given sets apex zone)
made_zone action.Upsert given sets apex after inside zone h =
    subst (λ s. IsZone s apex) (sym h) (placed_zone given sets apex inside zone)

pub zones_stay : (sets : List RecordSet) (apex : List (List ℕ)) (change : Change)
    (after : List RecordSet)
    → IsZone sets apex → Applies sets apex change (Ok after) → IsZone after apex
zones_stay sets apex change after zone h =
    made_zone change.action change.set sets apex after h.0 zone h.1
