use Rattle.std.proofs.Common.{◌∙◌, sym}
use Rattle.alias_links.specs.After.{changed_in}
use Rattle.batch_commands.proofs.Linked.{all_shallow, depth_told}
use Rattle.batch_commands.proofs.links.depth_refusal.Goals as goal

pub returns-then-are_short : goal.returns-then-are_short
returns-then-are_short c =
    let zones = c.args.zones.now.zones in
    sym (all_shallow (changed_in zones c.args.zone c.args.remove.now c.args.add.now)
    c.refusals_are_told.ensures (c.are_short.ensures c.if-are_short.true))

pub returns : goal.returns
returns c =
    c.too_deep.ensures
    ∙ depth_told (changed_in c.args.zones.now.zones c.args.zone c.args.remove.now c.args.add.now)
    c.refusals_are_told.ensures c.in_ok-first.first c.in_ok-first.ensures
