use Rattle.std.proofs.Common.{◌∙◌, sym}
use Rattle.config_edits.proofs.Holding.{held_there, named}
use Rattle.config_zones.proofs.looking.hold_at.Goals as goal

pub unreachable-requires-then-not-load : goal.unreachable-requires-then-not-load
unreachable-requires-then-not-load c =
    let at = c.in-Some.ensures in
    c.if-not-load.ensures.0 at.1.0
    (named c.args.zones.now.zones c.well_formed-2.ensures c.args.zone c.args.i c.in-Some.set at.0
    at.1)

pub returns-clause-held : goal.returns-clause-held
returns-clause-held c =
    let at = c.in-Some.ensures in
    let held = held_there c.args.zones.now.zones c.well_formed-2.ensures c.args.zone c.args.i
    c.in-Some.set at.0 at.1 c.load.new.into c.if-not-load.ensures in
    held.2 ∙ sym held.1

pub returns-clause-spelled : goal.returns-clause-spelled
returns-clause-spelled c =
    let at = c.in-Some.ensures in
    let held = held_there c.args.zones.now.zones c.well_formed-2.ensures c.args.zone c.args.i
    c.in-Some.set at.0 at.1 c.load.new.into c.if-not-load.ensures in
    (held.0, held.2, held.3)
