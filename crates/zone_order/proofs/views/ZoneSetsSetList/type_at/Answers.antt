use Rattle.std.proofs.Common.{◌≡◌, List, ap, subst, sym, ◌∙◌}
use Rattle.std.specs.Prelude.{slice_get}
use Rattle.set_store.specs.RecordSetRecord.{RecordSet}
use Rattle.set_store.specs.Stored.{IsKept}
use Rattle.zone_order.proofs.Slots.{kept_at, one_at}
use Rattle.zone_order.proofs.views.ZoneSetsSetList.type_at.Goals as goal

pub type_near-requires : goal.type_near-requires
type_near-requires c =
    let kept = kept_at c.self.inside.store.now.slots c.self.inside.zone c.self.inside.order.now
    c.self.invariant c.args.place
    c.slot_at.result c.slot_at.ensures in
    (record { zone = c.self.inside.zone; set = kept.0 }, kept.1)

pub returns : goal.returns
returns c it at =
    let kept = kept_at c.self.inside.store.now.slots c.self.inside.zone c.self.inside.order.now
    c.self.invariant c.args.place
    c.slot_at.result c.slot_at.ensures in
    let same : kept.0 ≡ it = one_at (slice_get c.args.self.now c.args.place) kept.0 it
    (ap (λ (sets : List RecordSet). slice_get sets c.args.place) (sym c.self.view_is) ∙ kept.2) at in
    c.type_near.ensures (record { zone = c.self.inside.zone; set = it })
    (subst (λ s. IsKept c.self.inside.store.now.slots c.slot_at.result
    (record { zone = c.self.inside.zone; set = s })) same kept.1)
