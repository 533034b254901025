use Rattle.std.proofs.Common.{arith, ◌∙◌}
use Rattle.health_valves.proofs.unfeeding.take_feeders.Goals as goal

pub loop-preserved : goal.loop-preserved
loop-preserved c =
    let i = c.loop.invariant in
    let t = c.take_feeder.ensures in
    record {
      others = λ x y apart. t.others x y apart ∙ i.others x y apart;
      valves = t.valves ∙ i.valves;
      most = t.most ∙ i.most;
      room = (let was = i.room in let now = t.room in omega (arith, was, now));
      valves_room = t.valves_room ∙ i.valves_room;
    }

pub returns-clause-gone : goal.returns-clause-gone
returns-clause-gone c = c.take_feeder.ensures.end c.loop-test.false

pub returns-clause-others : goal.returns-clause-others
returns-clause-others c x y apart = c.take_feeder.ensures.others x y apart ∙ c.loop.invariant.others x y apart
