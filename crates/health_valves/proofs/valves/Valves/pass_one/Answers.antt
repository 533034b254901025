use Rattle.std.proofs.Common.{arith, ◌<◌, length-set, ap, sym, refl, inl, inr}
use Rattle.std.specs.Prelude.{reverse, ◌∷◌}
use Rattle.std.proofs.lemmas.Bool.{cases_eq}
use Rattle.std.proofs.lemmas.List.Elements.{All-head, All-tail}
use Rattle.health_valves.proofs.Members.{in_cases}
use Rattle.health_valves.specs.Valves.{FedBy, size_of}
use Rattle.health_valves.specs.Walk.{FeedersFirst}
use Rattle.health_valves.specs.Pass.{waiting}
use Rattle.health_valves.proofs.Turns.{relisted}
use Rattle.health_valves.proofs.Walks.{edges_end, from_end, lists}
use Rattle.health_valves.proofs.valves.Valves.pass_one.Goals as goal

pub eval_node-requires-clause-node : goal.eval_node-requires-clause-node
eval_node-requires-clause-node g c =
    let e = from_end c.args.self.now.cone.items c.pop.new.self.items c.in-Some.valve c.in-Some.ensures.items in
    All-head (λ y. y < size_of c.args.self.now) c.in-Some.valve (reverse c.pop.new.self.items) (rw e at c.requires.within)

pub index_mut-requires : goal.index_mut-requires
index_mut-requires g c =
    let e = from_end c.args.self.now.cone.items c.pop.new.self.items c.in-Some.valve c.in-Some.ensures.items in
    let b = All-head (λ y. y < size_of c.args.self.now) c.in-Some.valve (reverse c.pop.new.self.items) (rw e at c.requires.within) in
    let f = c.requires.ready.2 in
    let size = f.laid.size in
    let marks = f.marks in
    let long = c.args.self.now.marks.ok.0 in
    omega arith

pub returns-clause-fits : goal.returns-clause-fits
returns-clause-fits g c net own f = c.eval_node.ensures.fits net own (relisted net own c.args.self.now _ refl refl refl refl refl (length-set _ _ _) c.pop.ensures.capacity f)

pub returns-clause-mends : goal.returns-clause-mends
returns-clause-mends g c net own f ends meet n b out =
    let s0 = c.args.self.now in
    let valve = c.in-Some.valve in
    let rest = c.pop.new.self.items in
    let e = from_end s0.cone.items rest valve c.in-Some.ensures.items in
    let f1 = relisted net own s0 _ refl refl refl refl refl (length-set _ _ _) c.pop.ensures.capacity f in
    let first : FeedersFirst (FedBy s0.feeds) (valve ∷ reverse rest) = rw e at (c.requires.first (edges_end net _ _ f.laid 64 ends)) in
    let gone = ap waiting c.eval_node.ensures.rest in
    let v = c.eval_node.ensures in
    elim (cases_eq n valve) [
      | inl same ↦ rw same (v.meets net own f1 ends)
      | inr ne ↦ v.spares net own n f1 ne
          (λ feeds. out (rw gone (first.0 n (lists net s0.rows.items s0.feeds f.laid valve n b feeds))))
          (meet n b (λ i. elim (in_cases valve n (reverse rest) (rw e at i)) [ inl same ↦ ne (sym same) | inr j ↦ out (rw gone j) ]))
    ]

pub returns-clause-within : goal.returns-clause-within
returns-clause-within g c =
    let e = from_end c.args.self.now.cone.items c.pop.new.self.items c.in-Some.valve c.in-Some.ensures.items in
    rw c.eval_node.ensures.rest (All-tail (λ y. y < size_of c.args.self.now) c.in-Some.valve (reverse c.pop.new.self.items) (rw e at c.requires.within))

pub returns-clause-room : goal.returns-clause-room
returns-clause-room g c n m h =
    let cone = h.cone in
    let same = c.pop.ensures.capacity in
    c.eval_node.ensures.room n m (record {
      rows = h.rows;
      feeds = h.feeds;
      lists = h.lists;
      values = h.values;
      counts = h.counts;
      owns = h.owns;
      cone = omega arith;
      marks = h.marks;
    })

pub returns-clause-first : goal.returns-clause-first
returns-clause-first g c =
    let s0 = c.args.self.now in
    let e = from_end s0.cone.items c.pop.new.self.items c.in-Some.valve c.in-Some.ensures.items in
    rw c.eval_node.ensures.rest (λ ends. (rw e at (c.requires.first ends)).1)
