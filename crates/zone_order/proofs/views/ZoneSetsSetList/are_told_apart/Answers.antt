use Rattle.std.proofs.Common.{◌≡◌, List, ap, subst, sym, ◌∙◌}
use Rattle.std.specs.Prelude.{slice_get}
use Rattle.set_store.specs.RecordSetRecord.{RecordSet}
use Rattle.set_store.specs.Stored.{IsKept}
use Rattle.zone_order.proofs.Slots.{kept_at, one_at}
use Rattle.zone_order.proofs.views.ZoneSetsSetList.are_told_apart.Goals as goal

pub are_told_apart-requires-clause-slot : goal.are_told_apart-requires-clause-slot
are_told_apart-requires-clause-slot c =
    let kept = kept_at c.self.inside.store.now.slots c.self.inside.zone c.self.inside.order.now
    c.self.invariant c.args.place
    c.slot_at.result c.slot_at.ensures in
    (record { zone = c.self.inside.zone; set = kept.0 }, kept.1)

pub are_told_apart-requires-clause-other : goal.are_told_apart-requires-clause-other
are_told_apart-requires-clause-other c =
    let kept = kept_at c.self.inside.store.now.slots c.self.inside.zone c.self.inside.order.now
    c.self.invariant c.args.other
    c.slot_at-2.result c.slot_at-2.ensures in
    (record { zone = c.self.inside.zone; set = kept.0 }, kept.1)

pub returns : goal.returns
returns c apart it another at at_too =
    let slots = c.self.inside.store.now.slots in
    let zone = c.self.inside.zone in
    let order = c.self.inside.order.now in
    let one = kept_at slots zone order c.self.invariant c.args.place c.slot_at.result
    c.slot_at.ensures in
    let two = kept_at slots zone order c.self.invariant c.args.other c.slot_at-2.result
    c.slot_at-2.ensures in
    let same : one.0 ≡ it = one_at (slice_get c.args.self.now c.args.place) one.0 it
    (ap (λ (sets : List RecordSet). slice_get sets c.args.place) (sym c.self.view_is) ∙ one.2) at in
    let same_too : two.0 ≡ another = one_at (slice_get c.args.self.now c.args.other) two.0 another
    (ap (λ (sets : List RecordSet). slice_get sets c.args.other) (sym c.self.view_is) ∙ two.2)
    at_too in
    c.are_told_apart.ensures apart (record { zone = zone; set = it })
    (record { zone = zone; set = another })
    (subst (λ s. IsKept slots c.slot_at.result (record { zone = zone; set = s })) same one.1)
    (subst (λ s. IsKept slots c.slot_at-2.result (record { zone = zone; set = s })) same_too two.1)
