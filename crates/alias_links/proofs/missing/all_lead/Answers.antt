use Rattle.std.proofs.Common.{◌≡◌, Option, None, Some, List, Bool, true, false, sym, refl}
use Rattle.std.specs.Prelude.{◌↔◌, IsTrue, is_some, not}
use Rattle.std.proofs.lemmas.Bool.{false≢true}
use Rattle.record_set.specs.declared.sets.RecordSet.{RecordSet}
use Rattle.record_set.specs.declared.sets.SetKey.{SetKey}
use Rattle.zone_table.specs.Walks.{HasNoTarget}
use Rattle.alias_links.specs.After.{changed_in}
use Rattle.alias_links.specs.Laws.{NoneHas}
use Rattle.alias_links.specs.Leasts.{LeastOrNone}
use Rattle.alias_links.proofs.Changing.{is_change}
use Rattle.alias_links.proofs.missing.all_lead.Goals as goal

-- none is told where no set has it
none_is_told : (Has : RecordSet → Type 0) (sets : List RecordSet) (least : Option SetKey) (none : Bool)
    → not none ≡ is_some least → LeastOrNone Has sets least → IsTrue none ↔ NoneHas Has sets
none_is_told Has sets None true e all = (λ is. all, λ is. refl)
none_is_told Has sets None false e all = absurd (false≢true (sym e))
none_is_told Has sets (Some key) true e some = absurd (false≢true e)
none_is_told Has sets (Some key) false e some =
    (λ is. absurd (false≢true is), λ all. absurd (all some.set some.there some.has))

pub missing_added-requires : goal.missing_added-requires
missing_added-requires c =
    is_change c.args.zones.now.zones c.args.zone c.args.remove.now c.args.add.now c.requires

pub returns : goal.returns
returns c =
    none_is_told
    (HasNoTarget (changed_in c.args.zones.now.zones c.args.zone c.args.remove.now c.args.add.now))
    c.args.add.now c.missing_added.result c.is_none.result (sym c.is_none.ensures) c.missing_added.ensures
