use Rattle.std.proofs.Common.{refl}
use Rattle.health_valves.specs.Valves.{value_of}
use Rattle.health_valves.proofs.Needs.{counted_now, laid_now, owned_now}
use Rattle.health_valves.proofs.valves.Valves.put_need.Goals as goal

pub returns-clause-fits : goal.returns-clause-fits
returns-clause-fits c net own f =
    record {
      laid = laid_now c.args.valve c.args.need c.args.inverted net c.args.self.now.rows.items c.args.self.now.feeds _ f.laid refl refl;
      values = f.values;
      counted = counted_now c.args.valve c.args.need c.args.inverted net own (value_of c.args.self.now) _ f.counted;
      owned = owned_now c.args.valve c.args.need c.args.inverted net own _ f.owned;
      marks = f.marks;
      room = f.room;
    }
