use Rattle.std.proofs.Common.{sym, subst, List}
use Rattle.std.specs.Prelude.{IsTrue, ◌↔◌}
use Rattle.zone_table.specs.RecordSetRecord.{RecordSet}
use Rattle.zone_table.specs.SetKeyRecord.{SetKey}
use Rattle.zone_table.specs.Edits.{IsAllowed}
use Rattle.zone_table.specs.declared.edits.ZoneEdit.{ZoneEdit}
use Rattle.zone_table.specs.declared.edits.ZoneEdit.TheVariants.{Change}
use Rattle.zone_allowed.proofs.allowed.is_allowed.Goals as goal

pub returns-in-Change : goal.returns-in-Change
returns-in-Change c =
    let zones = c.args.zones.now.zones in
    let b = c.is_change_allowed.result in
    subst (λ (e : ZoneEdit). IsTrue b ↔ IsAllowed zones e) (sym c.in-Change.is)
    (subst (λ (a : List RecordSet). IsTrue b
    ↔ IsAllowed zones (Change c.in-Change.zone c.in-Change.remove a)) c.as_slice-in-Change-2.ensures
    (subst (λ (r : List SetKey). IsTrue b
    ↔ IsAllowed zones (Change c.in-Change.zone r c.as_slice-in-Change-2.result.now))
    c.as_slice-in-Change.ensures c.is_change_allowed.ensures))
