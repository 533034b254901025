use Rattle.std.proofs.Common.{Some, ap, sym, refl, ◌∙◌}
use Rattle.cell_lists.specs.Lists.{list_at, first_of}
use Rattle.valve_feeds.specs.declared.joining.Ends.{Ends}
use Rattle.valve_feeds.specs.Feeds.{BothWays}
use Rattle.valve_feeds.specs.Joined.{ends_at, feeders_in}
use Rattle.valve_feeds.proofs.Filters.{list_at_map}
use Rattle.valve_feeds.proofs.Seen.{first_into, first_map, in_out, in_into, parted, seen_fewer}
use Rattle.valve_feeds.proofs.feeds.FeedLists.take_into.Goals as goal

pub part-ends-requires-clause-out : goal.part-ends-requires-clause-out
part-ends-requires-clause-out c =
    let first = first_into c.self.inside.ends.items c.self.inside.out c.self.inside.into c.in-Some.cell c.args.fed c.self.invariant
    (sym c.first.ensures.first ∙ c.in-Some.is) in
    rw c.deref.ensures.value (in_out _ _ _ _ c.self.invariant first.0)

pub part-ends-requires-clause-into : goal.part-ends-requires-clause-into
part-ends-requires-clause-into c =
    let first = first_into c.self.inside.ends.items c.self.inside.out c.self.inside.into c.in-Some.cell c.args.fed c.self.invariant
    (sym c.first.ensures.first ∙ c.in-Some.is) in
    rw c.deref.ensures.value (in_into _ _ _ _ c.self.invariant first.0)

pub invariant_of-self : goal.invariant_of-self
invariant_of-self c =
    let first = first_into c.self.inside.ends.items c.self.inside.out c.self.inside.into c.in-Some.cell c.args.fed c.self.invariant
    (sym c.first.ensures.first ∙ c.in-Some.is) in
    let gone = rw (c.part-ends.ensures.into, c.part-ends.ensures.ends, c.deref.ensures.value) at c.part-ends.ensures.free in
    rw (c.part-ends.ensures.out, c.part-ends.ensures.into, c.part-ends.ensures.ends, c.deref.ensures.value)
    (parted _ _ _ _ c.self.invariant first.0 gone)

pub returns : goal.returns
returns c =
    let first = first_into c.self.inside.ends.items c.self.inside.out c.self.inside.into c.in-Some.cell c.args.fed c.self.invariant
    (sym c.first.ensures.first ∙ c.in-Some.is) in
    let ends = c.part-ends.ensures.ends ∙ ap (λ l. ends_at l c.in-Some.cell) c.deref.ensures.value in
    let feeder = ap (λ (e : Ends). e.feeder) ends in
    let fed = ap (λ (e : Ends). e.fed) ends ∙ first.1 in (
      ap (λ (s : BothWays). first_of (list_at s.feeders c.args.fed)) (sym c.self.view_is)
          ∙ ap first_of (list_at_map (feeders_in c.self.inside.ends.items) refl c.self.inside.into.lists c.args.fed)
          ∙ first_map _ _ c.in-Some.cell (sym c.first.ensures.first ∙ c.in-Some.is) ∙ ap (λ k. Some k) (sym feeder),
      rw (c.part-ends.ensures.out, c.part-ends.ensures.into, fed, ← c.self.view_is)
          (seen_fewer c.self.inside.ends _ _ c.in-Some.cell _ _ c.self.invariant first.0 (sym feeder) first.1),
    )
