use Rattle.std.proofs.Common.{◌<◌, length, arith, rules, sym, inl, inr, suc, ◌∙◌}
use Rattle.std.specs.Prelude.{reverse}
use Rattle.std.specs.List.{Contains}
use Rattle.std.proofs.lemmas.List.Elements.{All-head, All-tail}
use Rattle.health_valves.specs.Valves.{FedBy}
use Rattle.health_valves.proofs.Members.{in_head, in_tail, in_cases, in_none}
use Rattle.health_valves.proofs.Walks.{deeper, listed_more, still, came}
use Rattle.health_valves.specs.Walk.{PathsEnd}
use Rattle.health_valves.proofs.cone.+visit.Goals as goal

pub visit-requires : goal.visit-requires
visit-requires t c =
    let at : Contains c.loop-next.next-iterator c.in-Some.next = rw c.in-Some.ensures.steps (in_head c.in-Some.next c.next.new.self) in
    let next = λ (ends : PathsEnd (FedBy c.args.feeds.now) 64). (deeper (FedBy c.args.feeds.now) c.args.depth (FedBy c.args.feeds.now c.args.valve) c.in-Some.next (c.requires.shallow ends) (c.loop-next.invariant.fed c.in-Some.next at)).1 in
    let i = c.loop-next.invariant in
    let b = All-head (λ y. y < length c.args.feeds.now.fed) c.in-Some.next c.next.new.self (rw c.in-Some.ensures.steps at i.within) in
    (search (rules, arith), (b, (next, (i.size ∙ c.requires.size, (i.fills, i.listed)))))

pub loop-next-preserved : goal.loop-next-preserved
loop-next-preserved t c =
    let at : Contains c.loop-next.next-iterator c.in-Some.next = rw c.in-Some.ensures.steps (in_head c.in-Some.next c.next.new.self) in
    let i = c.loop-next.invariant in
    let v = c.visit.ensures in
    record {
      fills = v.fills;
      size = v.size ∙ i.size;
      room = v.room ∙ i.room;
      marks_room = v.marks_room ∙ i.marks_room;
      listed = v.listed;
      within = All-tail (λ y. y < length c.args.feeds.now.fed) c.in-Some.next c.next.new.self (rw c.in-Some.ensures.steps at i.within);
      fed = λ y w. i.fed y (rw c.in-Some.ensures.steps (in_tail c.in-Some.next y c.next.new.self w));
      valves = λ y f. elim (i.valves y f) [
        | inl j ↦ inl (v.goes_on y j)
        | inr j ↦ elim (in_cases c.in-Some.next y c.next.new.self (rw c.in-Some.ensures.steps at j)) [
          | inl e ↦ inl (rw (sym e) v.here)
          | inr k ↦ inr k
        ]
      ];
      goes_on = λ y k. v.goes_on y (i.goes_on y k);
      only = λ y k. elim (v.only y k) [ inl j ↦ i.only y j | inr a ↦ inr (suc a.0, (c.in-Some.next, i.fed c.in-Some.next at, a.1)) ];
    }

pub returns-clause-listed : goal.returns-clause-listed
returns-clause-listed t c =
    let i = c.loop-next.invariant in
    let valve = c.requires.valve in
    let was = c.requires.size in
    let size = i.size in
    let b : c.args.valve < length c.loop-next.marks.items = omega arith in
    rw (c.add-2.ensures.cone, c.add-2.ensures.marks) (listed_more (FedBy c.args.feeds.now) (reverse c.loop-next.cone.items) c.loop-next.marks.items c.args.valve b i.listed
    (λ ends y f. elim (i.valves y f) [ inl j ↦ j | inr k ↦ absurd (in_none y (rw c.in-None.ensures.steps.0 at k)) ]))

pub returns-clause-goes_on : goal.returns-clause-goes_on
returns-clause-goes_on t c y i = rw c.add-2.ensures.cone (still (reverse c.loop-next.cone.items) c.loop-next.marks.items c.args.valve y (c.loop-next.invariant.goes_on y i))

pub returns-clause-only : goal.returns-clause-only
returns-clause-only t c y i =
    elim (came (reverse c.loop-next.cone.items) c.loop-next.marks.items c.args.valve y (rw c.add-2.ensures.cone at i)) [
      | inl e ↦ inr (0, sym e)
      | inr j ↦ c.loop-next.invariant.only y j
    ]

-- where the depth runs out, nothing is fed if paths end
pub returns-then-depth-eq0-clause-listed : goal.returns-then-depth-eq0-clause-listed
returns-then-depth-eq0-clause-listed t c =
    let valve = c.requires.valve in
    let size = c.requires.size in
    let none = c.if-depth-eq0.true in
    let b : c.args.valve < length c.args.marks.now.items = omega arith in
    rw (c.add.ensures.cone, c.add.ensures.marks) (listed_more (FedBy c.args.feeds.now) (reverse c.args.cone.now.items) c.args.marks.now.items c.args.valve b c.requires.listed
    (λ ends y f.
    let more = (deeper (FedBy c.args.feeds.now) c.args.depth (FedBy c.args.feeds.now c.args.valve) y (c.requires.shallow ends) f).0 in
    absurd (omega (arith, none, more))))

pub returns-then-depth-eq0-clause-goes_on : goal.returns-then-depth-eq0-clause-goes_on
returns-then-depth-eq0-clause-goes_on t c y i = rw c.add.ensures.cone (still (reverse c.args.cone.now.items) c.args.marks.now.items c.args.valve y i)

pub returns-then-depth-eq0-clause-only : goal.returns-then-depth-eq0-clause-only
returns-then-depth-eq0-clause-only t c y i =
    elim (came (reverse c.args.cone.now.items) c.args.marks.now.items c.args.valve y (rw c.add.ensures.cone at i)) [
      | inl e ↦ inr (0, sym e)
      | inr j ↦ inl j
    ]
