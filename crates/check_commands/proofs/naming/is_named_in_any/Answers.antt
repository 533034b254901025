use Rattle.std.proofs.Common.{◌∙◌, sym}
use Rattle.check_commands.proofs.Walked.{at_first, in_none, in_zone, not_in_zone}
use Rattle.check_commands.proofs.naming.is_named_in_any.Goals as goal

pub loop-zone-init : goal.loop-zone-init
loop-zone-init c =
    at_first c.args.id c.args.zones.now.zones c.zones_follow.ensures c.well_formed-2.ensures

pub returns-then-is_named_in : goal.returns-then-is_named_in
returns-then-is_named_in c =
    in_zone c.args.id c.args.zones.now.zones c.zones_follow.ensures c.well_formed-2.ensures
    c.loop-zone.last c.loop-zone.invariant c.in-Some.zone c.in-Some.ensures
    (sym c.is_named_in.ensures ∙ c.if-is_named_in.true)

pub loop-zone-preserved : goal.loop-zone-preserved
loop-zone-preserved c =
    not_in_zone c.args.id c.args.zones.now.zones c.zones_follow.ensures c.well_formed-2.ensures
    c.loop-zone.last c.loop-zone.invariant c.in-Some.zone c.in-Some.ensures
    (sym c.is_named_in.ensures ∙ c.if-is_named_in.false)

pub returns : goal.returns
returns c =
    in_none c.args.id c.args.zones.now.zones c.zones_follow.ensures c.well_formed-2.ensures
    c.loop-zone.last c.loop-zone.invariant c.in_default.ensures
