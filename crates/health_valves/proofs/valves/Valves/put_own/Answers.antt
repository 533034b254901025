use Rattle.std.proofs.Common.{arith}
use Rattle.health_valves.specs.Valves.{value_of}
use Rattle.health_valves.proofs.Counts.{recounted, reowned}
use Rattle.health_valves.proofs.Times.{count_most}
use Rattle.health_valves.proofs.valves.Valves.put_own.Goals as goal

pub overflow_sub-open : goal.overflow_sub-open
overflow_sub-open c =
    let r = c.requires.ready in
    let all = c.count.ensures r.0 r.1 r.2 in
    let its = c.own.ensures r.0 r.1 r.2 in
    omega arith

pub overflow_add-open : goal.overflow_add-open
overflow_add-open c =
    let r = c.requires.ready in
    let all = c.count.ensures r.0 r.1 r.2 in
    let its = c.own.ensures r.0 r.1 r.2 in
    let size = r.2.laid.size in
    let valve = c.requires.valve in
    let few = r.2.counted.few c.args.valve (omega arith) in
    let most = count_most (value_of c.args.self.now) (r.0.condition c.args.valve).feeders in
    let small = c.requires.small in
    omega arith

pub returns-clause-fits : goal.returns-clause-fits
returns-clause-fits c net own f =
    let size = f.laid.size in
    let valve = c.requires.valve in
    let all = c.count.ensures net own f in
    let its = c.own.ensures net own f in
    record {
      laid = f.laid;
      values = f.values;
      counted = recounted net own c.args.valve c.args.own (value_of c.args.self.now) _ _ (omega arith) c.requires.small (omega arith) f.counted;
      owned = reowned net own c.args.valve c.args.own _ (omega arith) f.owned;
      marks = f.marks;
      room = f.room;
    }
