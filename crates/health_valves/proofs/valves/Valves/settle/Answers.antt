use Rattle.std.proofs.Common.{◌<◌, length, arith, sym, refl, ◌∙◌}
use Rattle.std.specs.Prelude.{reverse}
use Rattle.std.proofs.lemmas.List.{length-reverse}
use Rattle.std.proofs.lemmas.List.Elements.{All-contains}
use Rattle.health_valves.proofs.Turns.{relisted}
use Rattle.health_valves.proofs.Walks.{edges_end, cone_net, cone_edges, leads_within}
use Rattle.health_valves.specs.Valves.{size_of}
use Rattle.health_valves.proofs.valves.Valves.settle.Goals as goal

pub list_cone-requires-clause-starts : goal.list_cone-requires-clause-starts
list_cone-requires-clause-starts g c k d below =
    let laid = c.requires.ready.2.laid in
    let size = laid.size in
    let valves = laid.valves in
    let b = c.requires.starts k d below in
    omega arith

pub list_cone-requires-clause-size : goal.list_cone-requires-clause-size
list_cone-requires-clause-size g c = let f = c.requires.ready.2 in f.marks ∙ sym f.laid.valves

pub list_cone-requires-clause-room : goal.list_cone-requires-clause-room
list_cone-requires-clause-room g c =
    let f = c.requires.ready.2 in
    let valves = f.laid.valves in
    let room = f.room in
    omega arith

pub pass-requires-clause-within : goal.pass-requires-clause-within
pass-requires-clause-within g c k d below =
    let laid = c.requires.ready.2.laid in
    let size = laid.size in
    let valves = laid.valves in
    let b = c.list_cone.ensures.within k d below in
    omega arith

pub returns-clause-fits : goal.returns-clause-fits
returns-clause-fits g c net own f = c.pass.ensures.fits net own (relisted net own c.args.self.now _ refl refl refl refl refl c.list_cone.ensures.size c.list_cone.ensures.room f)

pub returns-clause-mends : goal.returns-clause-mends
returns-clause-mends g c net own f ends outside =
    let s = c.args.self.now in
    let walk = c.list_cone.ensures.walk (edges_end net _ _ f.laid 64 ends) in
    c.pass.ensures.mends net own (relisted net own s _ refl refl refl refl refl c.list_cone.ensures.size c.list_cone.ensures.room f) ends
    (λ n b out. outside n b (λ k. out ((walk.members n).1 (cone_edges net s.rows.items s.feeds f.laid c.args.starts.now n b k))))

pub returns-clause-cost : goal.returns-clause-cost
returns-clause-cost g c net own nodes f has =
    let s = c.args.self.now in
    let l = c.list_cone.ensures in
    let size = f.laid.valves in
    let rows = f.laid.size in
    let few = l.few nodes (λ y k.
    let b = All-contains (λ n. n < size_of s) c.args.starts.now k.0 c.requires.starts k.1 in
    has y (leads_within net s.rows.items s.feeds f.laid k.2.0 k.0 y (omega (arith, b, rows)) k.2.1) (cone_net net s.rows.items s.feeds f.laid c.args.starts.now y k)) in
    let cost = c.pass.ensures.cost in
    omega arith

pub returns-clause-cone : goal.returns-clause-cone
returns-clause-cone g c net own f =
    let s = c.args.self.now in
    let l = c.list_cone.ensures in
    let size = f.laid.valves in
    let long = length-reverse c.list_cone.new.cone.items in
    let cost = c.pass.ensures.cost in (
      reverse c.list_cone.new.cone.items,
      (
        record {
          once = l.once;
          within = λ y m. let b = All-contains (λ n. n < length c.args.self.now.feeds.fed) _ y l.within m in omega arith;
          above = λ y m.
              let k = l.only y m in
              cone_net net s.rows.items s.feeds f.laid c.args.starts.now y k;
        },
        omega arith,
      ),
    )

pub returns-clause-room : goal.returns-clause-room
returns-clause-room g c n m h =
    let l = c.list_cone.ensures in
    let cone = h.cone in
    let cone_same = l.room in
    let marks = h.marks in
    let marks_same = l.marks_room in
    c.pass.ensures.room n m (record {
      rows = h.rows;
      feeds = h.feeds;
      lists = h.lists;
      values = h.values;
      counts = h.counts;
      owns = h.owns;
      cone = omega arith;
      marks = omega arith;
    })
