use Rattle.std.proofs.Common.{arith}
use Rattle.health_planning.proofs.Built.{is_planned}
use Rattle.health_planning.proofs.Planned.{blueprint_ends}
use Rattle.health_planning.proofs.planning.plan_valves.Goals as goal

pub returns-clause-planned : goal.returns-clause-planned
returns-clause-planned c =
    let few = c.requires.room.few in
    let valves = c.plan_all.ensures.few_valves in
    let links = c.plan_all.ensures.few_links in
    is_planned c.args.zones.now.zones c.args.checks.now.checks.list c.args.numbers.now c.plan_all.new.refs.items c.plan_all.new.seats.items c.plan_all.new.blueprint
    c.plan_all.ensures.built c.plan_all.ensures.small (omega arith) (omega arith)

pub returns-clause-ends : goal.returns-clause-ends
returns-clause-ends c =
    blueprint_ends c.paths_end.ensures c.args.zones.now.zones c.args.checks.now.checks c.args.numbers.now c.plan_all.new.refs.items c.plan_all.new.seats.items c.plan_all.new.blueprint
    c.well_formed-2.ensures c.slots_apart.ensures c.as_slice-list.ensures.sound c.requires.sound c.requires.valves c.plan_all.ensures.built
