use Rattle.std.proofs.Common.{arith, ap, sym, length, ◌∙◌}
use Rattle.std.proofs.lemmas.List.Sorted.{length_permutation}
use Rattle.health_valves.specs.Blueprint.{net_in, own_in}
use Rattle.health_valves.proofs.Planning.{planned_moved}
use Rattle.health_valves.proofs.valves.Valves.lay_out.Goals as goal

pub set_up-requires-clause-planned : goal.set_up-requires-clause-planned
set_up-requires-clause-planned c =
    planned_moved c.args.blueprint.now c.sort.new.self c.sort.ensures.triggers c.sort.ensures.permutation c.requires.planned

pub set_up-requires-clause-room : goal.set_up-requires-clause-room
set_up-requires-clause-room c =
    let long = length_permutation _ _ c.sort.ensures.permutation in
    rw (c.sort.ensures.triggers, long) c.requires.room

pub settle_uncounted-requires-clause-ready : goal.settle_uncounted-requires-clause-ready
settle_uncounted-requires-clause-ready c =
    (net_in c.args.blueprint.now, own_in c.args.blueprint.now, c.set_up.ensures.fits c.args.blueprint.now (sym c.sort.ensures.triggers) c.sort.ensures.permutation)

pub settle_uncounted-requires-clause-few : goal.settle_uncounted-requires-clause-few
settle_uncounted-requires-clause-few c =
    let few = c.requires.planned.few in
    let size = c.set_up.ensures.size in
    let same = ap length c.sort.ensures.triggers in
    omega arith

pub returns-clause-fits : goal.returns-clause-fits
returns-clause-fits c =
    c.settle_uncounted.ensures.fits _ _ (c.set_up.ensures.fits c.args.blueprint.now (sym c.sort.ensures.triggers) c.sort.ensures.permutation)

pub returns-clause-meet : goal.returns-clause-meet
returns-clause-meet c =
    c.settle_uncounted.ensures.meet _ _ (c.set_up.ensures.fits c.args.blueprint.now (sym c.sort.ensures.triggers) c.sort.ensures.permutation) c.requires.ends

pub returns-clause-kept : goal.returns-clause-kept
returns-clause-kept c n m room = c.settle_uncounted.ensures.room n m (c.set_up.ensures.kept n m room)

pub returns-clause-links : goal.returns-clause-links
returns-clause-links c = length_permutation _ _ c.sort.ensures.permutation

pub returns-clause-laid_links : goal.returns-clause-laid_links
returns-clause-laid_links c =
    c.settle_uncounted.ensures.links ∙ c.set_up.ensures.links ∙ length_permutation _ _ c.sort.ensures.permutation
