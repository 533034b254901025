use Rattle.std.proofs.Common.{◌∙◌, ap, arith, map}
use Rattle.std.specs.Prelude.{option_map, slice_index_or}
use Rattle.std.proofs.lemmas.Option.{slice_get-get_or, slice_get-map}
use Rattle.config_zones.specs.SetRefRecord.{SetRef}
use Rattle.check_commands.specs.Uses.{slot_of}
use Rattle.check_commands.proofs.Followed.{bound, looks_all, looks_more, looks_none}
use Rattle.check_commands.proofs.uses.look_at_all.Goals as goal

pub loop-i-init : goal.loop-i-init
loop-i-init c =
    looks_none c.args.zones.now.zones c.args.zone (map slot_of c.args.sets.now) c.args.named.now

pub loop-i-preserved : goal.loop-i-preserved
loop-i-preserved c =
    let sets = c.args.sets.now in
    let i = c.loop-i.i in
    let none : SetRef = record { zone = 0; slot = 0 } in
    let at = slice_get-map slot_of sets i
    ∙ ap (option_map slot_of) (slice_get-get_or sets i none c.loop-i-test.true) in
    looks_more c.args.zones.now.zones c.args.zone (map slot_of sets) c.args.named.now i
    c.loop-i.named c.look_at.new.named (slice_index_or sets i none).slot at c.loop-i.invariant
    (c.look_at.ensures.told c.if-not-look_at.false) c.look_at.ensures.others

pub returns : goal.returns
returns c = λ whole.
    let past = c.loop-i-test.false in
    looks_all c.args.zones.now.zones c.args.zone (map slot_of c.args.sets.now) c.args.named.now
    c.loop-i.i c.loop-i.named
    (bound slot_of c.args.sets.now c.loop-i.i (omega (arith, past))) c.loop-i.invariant
