use Rattle.std.proofs.Common.{◌∙◌, sym}
use Rattle.zone_commands.proofs.Closed.{closed, none_there, not_empty}
use Rattle.zone_commands.proofs.closing.delete_zone.Goals as goal

pub returns-in_default : goal.returns-in_default
returns-in_default c = λ checks next.
    none_there c.args.zones.now c.args.id checks next c.zones_are_found.ensures c.in_default.ensures

pub returns-then-has_another : goal.returns-then-has_another
returns-then-has_another c = λ checks next.
    not_empty c.args.zones.now c.args.id checks next c.zones_are_found.ensures c.in-Some.apex
    c.well_formed-2.ensures c.in-Some.ensures (sym c.has_another.ensures ∙ c.if-has_another.true)

pub returns : goal.returns
returns c = λ checks next.
    closed c.args.zones.now c.args.id checks next c.zones_are_found.ensures c.in-Some.apex
    c.well_formed-2.ensures c.in-Some.ensures c.edits_are_told.ensures
    (sym c.has_another.ensures ∙ c.if-has_another.false)
