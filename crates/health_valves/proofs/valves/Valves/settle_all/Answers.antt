use Rattle.std.proofs.Common.{arith, sym, refl, ◌∙◌}
use Rattle.health_valves.proofs.Turns.{relisted}
use Rattle.health_valves.proofs.valves.Valves.settle_all.Goals as goal

pub list_all-requires-clause-size : goal.list_all-requires-clause-size
list_all-requires-clause-size g c = let f = c.requires.ready.2 in f.marks ∙ sym f.laid.valves

pub list_all-requires-clause-room : goal.list_all-requires-clause-room
list_all-requires-clause-room g c =
    let f = c.requires.ready.2 in
    let valves = f.laid.valves in
    let room = f.room in
    omega arith

pub pass-requires-clause-within : goal.pass-requires-clause-within
pass-requires-clause-within g c k d below =
    let laid = c.requires.ready.2.laid in
    let size = laid.size in
    let valves = laid.valves in
    let b = c.list_all.ensures.within k d below in
    omega arith

pub returns-clause-cost : goal.returns-clause-cost
returns-clause-cost g c =
    let laid = c.requires.ready.2.laid in
    let size = laid.size in
    let valves = laid.valves in
    let few = c.list_all.ensures.few in
    let cost = c.pass.ensures.cost in
    omega arith

pub returns-clause-fits : goal.returns-clause-fits
returns-clause-fits g c net own f = c.pass.ensures.fits net own (relisted net own c.args.self.now _ refl refl refl refl refl c.list_all.ensures.size c.list_all.ensures.room f)

pub returns-clause-meet : goal.returns-clause-meet
returns-clause-meet g c net own f ends =
    let size = f.laid.valves in
    c.pass.ensures.mends net own (relisted net own c.args.self.now _ refl refl refl refl refl c.list_all.ensures.size c.list_all.ensures.room f) ends
    (λ n b out. absurd (out (c.list_all.ensures.all n (omega arith))))

pub returns-clause-room : goal.returns-clause-room
returns-clause-room g c n m h =
    let l = c.list_all.ensures in
    let cone = h.cone in
    let cone_same = l.room in
    let marks = h.marks in
    let marks_same = l.marks_room in
    c.pass.ensures.room n m (record {
      rows = h.rows;
      feeds = h.feeds;
      lists = h.lists;
      values = h.values;
      counts = h.counts;
      owns = h.owns;
      cone = omega arith;
      marks = omega arith;
    })
