use Rattle.std.proofs.Common.{arith, refl}
use Rattle.health_valves.specs.Valves.{value_of}
use Rattle.health_valves.proofs.Cuts.{cut_counted, cut_laid, cut_owned}
use Rattle.health_valves.proofs.valves.Valves.cut.Goals as goal

pub returns-clause-fits : goal.returns-clause-fits
returns-clause-fits c net own f =
    let valve = c.args.valve in
    let s = c.args.self.now in
    let t = c.take_feeders.ensures in
    let b = c.requires.valve in
    let size = f.laid.size in
    record {
      laid = cut_laid net own valve s.rows.items s.feeds _ _ (omega (arith, b, size)) refl refl t.gone t.others t.valves f.laid;
      values = f.values;
      counted = cut_counted net own valve (value_of s) s.counts.items (omega (arith, b, size)) f.counted;
      owned = cut_owned net own valve s.owns.items (omega (arith, b, size)) f.owned;
      marks = f.marks;
      room = f.room;
    }

pub returns-clause-room : goal.returns-clause-room
returns-clause-room c n m h =
    let t = c.take_feeders.ensures in
    let valves = t.valves in
    let most = t.most in
    let more = t.valves_room in
    let feeds = h.feeds in
    let lists = h.lists in
    record {
      rows = h.rows;
      feeds = omega (arith, feeds, most);
      lists = omega (arith, lists, more, valves);
      values = h.values;
      counts = h.counts;
      owns = h.owns;
      cone = h.cone;
      marks = h.marks;
    }
