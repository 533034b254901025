use Rattle.std.proofs.Common.{◌∙◌, sym}
use Rattle.batch_commands.proofs.Changed.{in_order, links_next, names_first, room_octets, room_sets}
use Rattle.batch_commands.proofs.Changed.{sizes_last}
use Rattle.batch_commands.proofs.Counted.{spelled}
use Rattle.batch_commands.proofs.changing.refusal_of.Goals as goal

pub named_refusal-requires : goal.named_refusal-requires
named_refusal-requires c =
    spelled c.args.zones.now.zones c.well_formed-2.ensures c.args.zone c.args.remove.now
    c.args.add.now c.requires.allowed

pub link_refusal-requires-clause-targets : goal.link_refusal-requires-clause-targets
link_refusal-requires-clause-targets c =
    (in_order c.args.zones.now c.args.checks.now.checks c.requires.sound.0 c.args.zone
    c.requires.sound.1 c.well_formed-2.ensures c.requires.allowed.0
    c.refusals_are_told.ensures).targets_there

pub link_refusal-requires-clause-walks : goal.link_refusal-requires-clause-walks
link_refusal-requires-clause-walks c =
    (in_order c.args.zones.now c.args.checks.now.checks c.requires.sound.0 c.args.zone
    c.requires.sound.1 c.well_formed-2.ensures c.requires.allowed.0
    c.refusals_are_told.ensures).not_too_deep

pub size_refusal-requires-clause-sets : goal.size_refusal-requires-clause-sets
size_refusal-requires-clause-sets c =
    room_sets c.args.zones.now c.args.checks.now.checks c.requires.sound.0 c.requires.sound.1
    c.counts_agree.ensures

pub size_refusal-requires-clause-octets : goal.size_refusal-requires-clause-octets
size_refusal-requires-clause-octets c =
    room_octets c.args.zones.now c.args.checks.now.checks c.requires.sound.0 c.requires.sound.1
    c.counts_agree.ensures

pub returns-in-Some : goal.returns-in-Some
returns-in-Some c =
    names_first c.args.zones.now c.args.checks.now.checks c.requires.sound.0 c.args.zone
    c.requires.sound.1 c.well_formed-2.ensures c.requires.allowed.0 c.args.remove.now
    c.args.add.now c.requires.comes c.collections.result.now c.collections.ensures c.in-Some.why
    c.in-Some.ensures

pub returns-in-Some-linked : goal.returns-in-Some-linked
returns-in-Some-linked c =
    links_next c.args.zones.now c.args.checks.now.checks c.requires.sound.0 c.args.zone
    c.requires.sound.1 c.well_formed-2.ensures c.requires.allowed.0 c.args.remove.now
    c.args.add.now c.requires.comes c.collections.result.now c.collections.ensures c.in-Some-linked.why
    c.in_default.ensures (sym c.in-Some-linked.is ∙ c.in_ok-linked.ensures)

pub returns : goal.returns
returns c =
    sizes_last c.args.zones.now c.args.checks.now.checks c.requires.sound.0 c.args.zone
    c.requires.sound.1 c.well_formed-2.ensures c.requires.allowed.0 c.args.remove.now
    c.args.add.now c.requires.comes c.collections.result.now c.collections.ensures
    c.size_refusal.result c.in_default.ensures (sym c.in_default-linked.is ∙ c.in_ok-linked.ensures)
    c.size_refusal.ensures
