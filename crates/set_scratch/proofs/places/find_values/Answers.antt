use Rattle.std.proofs.Common.{arith, sym, ◌∙◌}
use Rattle.set_scratch.proofs.Bodies.{few_values, values_there, end_of_values, starts_of_values}
use Rattle.set_scratch.proofs.places.find_values.Goals as goal

pub fill-requires-clause-room : goal.fill-requires-clause-room
fill-requires-clause-room c =
    let there = c.requires.there in
    let is = sym (c.in-Some.ensures there.0 there.1 (c.behind-answers.ensures ∙ there.3)) in
    let few =
    few_values c.args.octets.now c.args.body c.in-Some.count there.0 there.1 c.requires.short there.3 is in
    omega (arith, few, c.requires.room, c.clear.ensures.capacity)

pub fill-requires-clause-there : goal.fill-requires-clause-there
fill-requires-clause-there c =
    let there = c.requires.there in
    values_there c.args.octets.now c.args.body c.in-Some.count there.0 there.1 there.3
    (sym (c.in-Some.ensures there.0 there.1 (c.behind-answers.ensures ∙ there.3)))

pub returns-in-Some-clause-end : goal.returns-in-Some-clause-end
returns-in-Some-clause-end c = λ what after is there.
    end_of_values c.args.octets.now c.args.body c.in-Some.count c.fill.result c.fill.ensures.end what
    after there
    (sym (c.in-Some.ensures what after (c.behind-answers.ensures ∙ there)))

pub returns-in-Some-clause-starts : goal.returns-in-Some-clause-starts
returns-in-Some-clause-starts c = λ what after is there.
    starts_of_values c.args.octets.now c.args.body c.in-Some.count c.fill.new.starts.items
    c.fill.ensures.starts what after there
    (sym (c.in-Some.ensures what after (c.behind-answers.ensures ∙ there)))
