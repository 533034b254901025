use Rattle.std.proofs.Common.{◌-◌, ◌++◌, map, ap, ◌∙◌}
use Rattle.set_store.specs.Index.{kept_in}
use Rattle.set_store.specs.Stored.{Slots, nothing}
use Rattle.set_store.proofs.store.SetSlots.reserve_slots.Goals as goal

pub returns-clause-slots : goal.returns-clause-slots
returns-clause-slots c =
    let more = c.args.slots - c.self.inside.spare in
    let held = c.self.inside.region.held in
    c.give_slots-self-inside.ensures.seen held ∙ ap (λ xs. map (kept_in held) xs
    ++ nothing more) c.make_room.ensures.items
    ∙ ap (λ (s : Slots). s.slots ++ nothing (c.args.slots - s.free)) c.self.view_is
