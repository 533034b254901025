use Rattle.std.proofs.Common.{arith, length, length-take, ap, ◌∙◌}
use Rattle.considered_sets.proofs.Places.{noted_is, some_considered}
use Rattle.multivalue.specs.Answer.{picked}
use Rattle.multivalue.proofs.Chosen.{chosen_few, chosen_many}
use Rattle.multivalue.proofs.choice.choose.Goals as goal

pub pick-requires-clause-within : goal.pick-requires-clause-within
pick-requires-clause-within c =
    let e = c.note_places-count.ensures.noted
    ∙ noted_is _ c.args.healthy.now c.some_healthy.ensures in
    omega (arith, ap length e, some_considered c.args.healthy.now c.requires.some)

pub returns-then-count-le-MOST : goal.returns-then-count-le-MOST
returns-then-count-le-MOST c =
    let e = c.note_places-count.ensures.noted
    ∙ noted_is _ c.args.healthy.now c.some_healthy.ensures in
    let long = length-take c.note_places-count.result c.note_places-count.new.places in
    c.pick.ensures ∙ ap picked (chosen_few c.args.healthy.now _ c.args.word e (omega (arith, long)))

pub returns-else-count-le-MOST : goal.returns-else-count-le-MOST
returns-else-count-le-MOST c =
    let e = c.note_places-count.ensures.noted
    ∙ noted_is _ c.args.healthy.now c.some_healthy.ensures in
    let long = length-take c.note_places-count.result c.note_places-count.new.places in
    let few = c.note_places-count.ensures.few in
    c.pick-else-count-le-MOST.ensures
    ∙ ap picked
    (chosen_many c.args.healthy.now _ c.args.word e _ (omega (arith, few, long)) (omega arith))
