use Rattle.std.proofs.Common.{Some, ap, sym, refl, ◌∙◌}
use Rattle.cell_lists.specs.Lists.{list_at, list_of, first_of}
use Rattle.valve_feeds.specs.declared.joining.Ends.{Ends}
use Rattle.valve_feeds.specs.Feeds.{BothWays}
use Rattle.valve_feeds.specs.Joined.{ends_at, fed_in, of_valves}
use Rattle.valve_feeds.proofs.Filters.{list_at_map}
use Rattle.valve_feeds.proofs.ComeAndGo.{at_valve}
use Rattle.valve_feeds.proofs.Seen.{first_out, first_map, in_out, in_into, parted, seen_fewer}
use Rattle.valve_feeds.proofs.feeds.FeedLists.take_out.Goals as goal

pub part-ends-requires-clause-out : goal.part-ends-requires-clause-out
part-ends-requires-clause-out c =
    let first = first_out c.self.inside.ends.items c.self.inside.out c.self.inside.into c.in-Some.cell c.args.feeder c.self.invariant
    (ap (λ k. first_of (list_of c.self.inside.out k)) (sym c.list_from.ensures) ∙ sym c.first.ensures.first ∙ c.in-Some.is) in
    rw c.deref.ensures.value (in_out _ _ _ _ c.self.invariant first.0)

pub part-ends-requires-clause-into : goal.part-ends-requires-clause-into
part-ends-requires-clause-into c =
    let first = first_out c.self.inside.ends.items c.self.inside.out c.self.inside.into c.in-Some.cell c.args.feeder c.self.invariant
    (ap (λ k. first_of (list_of c.self.inside.out k)) (sym c.list_from.ensures) ∙ sym c.first.ensures.first ∙ c.in-Some.is) in
    rw c.deref.ensures.value (in_into _ _ _ _ c.self.invariant first.0)

pub invariant_of-self : goal.invariant_of-self
invariant_of-self c =
    let first = first_out c.self.inside.ends.items c.self.inside.out c.self.inside.into c.in-Some.cell c.args.feeder c.self.invariant
    (ap (λ k. first_of (list_of c.self.inside.out k)) (sym c.list_from.ensures) ∙ sym c.first.ensures.first ∙ c.in-Some.is) in
    let gone = rw (c.part-ends.ensures.into, c.part-ends.ensures.ends, c.deref.ensures.value) at c.part-ends.ensures.free in
    rw (c.part-ends.ensures.out, c.part-ends.ensures.into, c.part-ends.ensures.ends, c.deref.ensures.value)
    (parted _ _ _ _ c.self.invariant first.0 gone)

pub returns : goal.returns
returns c =
    let first = first_out c.self.inside.ends.items c.self.inside.out c.self.inside.into c.in-Some.cell c.args.feeder c.self.invariant (ap (λ k. first_of (list_of c.self.inside.out k)) (sym c.list_from.ensures) ∙ sym c.first.ensures.first ∙ c.in-Some.is) in
    let ends = c.part-ends.ensures.ends ∙ ap (λ l. ends_at l c.in-Some.cell) c.deref.ensures.value in
    let fed = ap (λ (e : Ends). e.fed) ends in
    let feeder = ap (λ (e : Ends). e.feeder) ends ∙ first.1 in (
      ap (λ (s : BothWays). first_of (list_at s.fed c.args.feeder)) (sym c.self.view_is)
          ∙ ap first_of (list_at_map (fed_in c.self.inside.ends.items) refl (of_valves c.self.inside.out.lists) c.args.feeder
          ∙ ap (fed_in c.self.inside.ends.items) (at_valve c.self.inside.out.lists c.args.feeder))
          ∙ first_map _ _ c.in-Some.cell (ap (λ k. first_of (list_of c.self.inside.out k)) (sym c.list_from.ensures) ∙ sym c.first.ensures.first ∙ c.in-Some.is) ∙ ap (λ k. Some k) (sym fed),
      rw (c.part-ends.ensures.out, c.part-ends.ensures.into, feeder, ← c.self.view_is)
          (seen_fewer c.self.inside.ends _ _ c.in-Some.cell _ _ c.self.invariant first.0 first.1 (sym fed)),
    )
