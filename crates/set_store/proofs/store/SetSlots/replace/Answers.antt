use Rattle.std.proofs.Common.{◌≡◌, ◌≤◌, ℕ, ◌+◌, List, length, Some, map, set, sym, ap, subst, ◌∙◌}
use Rattle.set_store.specs.Index.{IsIntact, kept_in}
use Rattle.set_store.specs.Stored.{IsKept, IsInUse, Slots}
use Rattle.set_store.proofs.Keeping.{is_cell, is_live, zone_kept}
use Rattle.set_store.proofs.Lists.{as_many, elsewhere, here}
use Rattle.set_store.proofs.Replaces.{replaced, replaced_seen}
use Rattle.set_store.proofs.Reading.{found_in}
use Rattle.set_store.proofs.Back.{come_back, same_cell, cells_back}
use Rattle.set_store.proofs.Puts as put
use Rattle.set_scratch.specs.Octets.{set_octets}
use Rattle.set_scratch.specs.Cells.{cells_for}
use Rattle.set_scratch.specs.Stored.{Stored}
use Rattle.std.specs.FinMap as finmap
use Rattle.set_store.proofs.store.SetSlots.replace.Goals as goal

pub invariant_of-self : goal.invariant_of-self
invariant_of-self c =
    let live = is_live c.self.inside.region.held c.self.inside.slots.items c.args.slot c.slot_at-old.result
    c.slot_at-old.ensures (subst (λ (s : Slots). IsInUse s.slots c.args.slot)
    (sym c.self.view_is) c.requires.taken) in
    subst (λ xs. IsIntact c.free.new.self.held xs c.self.inside.free c.self.inside.spare)
    (ap (set c.self.inside.slots.items c.args.slot) (sym (c.taken-new.ensures
    ∙ (ap (λ k. record { cell = k; tag = c.tag_in.result; zone = c.zone.result }) c.number.ensures
    ∙ ap (λ z. record { cell = c.put-handle.result; tag = c.tag_in.result; zone = z }) c.zone.ensures)))
    ∙ sym c.set_slot.ensures)
    (replaced c.self.inside.region.held c.put-handle.new.self.held c.free.new.self.held c.put-handle.result
    c.args.octets.now
    c.put-handle.ensures.fresh c.put-handle.ensures.here c.put-handle.ensures.others c.self.inside.slots.items
    c.self.inside.free c.self.inside.spare c.self.invariant c.args.slot c.slot_at-old.result
    c.slot_at-old.ensures live
    (λ other ne. c.free.ensures.others other (λ e. ne (e ∙ (c.of.ensures ∙ c.cell.ensures))))
    (is_cell c.put-handle.result c.self.inside.region.cells c.cells.result c.cells.ensures.cells
    c.cells.ensures.most c.put-handle.ensures.below) c.tag_in.result c.tag_in.ensures.tag
    c.requires.spelling)

pub returns-clause-slots : goal.returns-clause-slots
returns-clause-slots c it kept spells is =
    let live = is_live c.self.inside.region.held c.self.inside.slots.items c.args.slot c.slot_at-old.result
    c.slot_at-old.ensures (subst (λ (s : Slots). IsInUse s.slots c.args.slot)
    (sym c.self.view_is) c.requires.taken) in
    let put = Some (record { zone = kept.zone; set = it }) in
    ap (map (kept_in c.free.new.self.held)) (c.set_slot.ensures
    ∙ ap (set c.self.inside.slots.items c.args.slot) (c.taken-new.ensures
    ∙ (ap (λ k. record { cell = k; tag = c.tag_in.result; zone = c.zone.result }) c.number.ensures
    ∙ ap (λ z. record { cell = c.put-handle.result; tag = c.tag_in.result; zone = z }) c.zone.ensures)))
    ∙ replaced_seen c.self.inside.region.held c.put-handle.new.self.held c.free.new.self.held
    c.put-handle.result c.args.octets.now
    c.put-handle.ensures.fresh c.put-handle.ensures.here c.put-handle.ensures.others c.self.inside.slots.items
    c.self.inside.free c.self.inside.spare c.self.invariant c.args.slot c.slot_at-old.result
    c.slot_at-old.ensures live
    (λ other ne. c.free.ensures.others other (λ e. ne (e ∙ (c.of.ensures ∙ c.cell.ensures))))
    (is_cell c.put-handle.result c.self.inside.region.cells c.cells.result c.cells.ensures.cells
    c.cells.ensures.most c.put-handle.ensures.below) c.tag_in.result c.tag_in.ensures.tag
    c.written_reads_back.ensures it spells kept.zone
    (zone_kept c.self.inside.region.held c.self.inside.slots.items c.args.slot c.slot_at-old.result
    c.slot_at-old.ensures kept
    (subst (λ (s : Slots). IsKept s.slots c.args.slot kept) (sym c.self.view_is) is))
    ∙ ap (λ (s : Slots). set s.slots c.args.slot put) c.self.view_is

pub returns-clause-here : goal.returns-clause-here
returns-clause-here c it kept spells is =
    here c.args.self.now.slots _ c.args.slot (Some kept) (Some (record { zone = kept.zone; set = it })) is
    (returns-clause-slots c it kept spells is)

pub returns-clause-others : goal.returns-clause-others
returns-clause-others c other ne =
    let it = c.requires.spelling in
    let kept = c.requires.taken in
    elsewhere c.args.self.now.slots _ c.args.slot (Some (record { zone = kept.0.zone; set = it.0 }))
    (returns-clause-slots c it.0 kept.0 it.1 kept.1) other ne

pub returns-clause-cells : goal.returns-clause-cells
returns-clause-cells c kept is =
    let live = is_live c.self.inside.region.held c.self.inside.slots.items c.args.slot c.slot_at-old.result
    c.slot_at-old.ensures (subst (λ (s : Slots). IsInUse s.slots c.args.slot)
    (sym c.self.view_is) c.requires.taken) in
    let f = found_in c.self.inside.region.held c.self.inside.slots.items c.self.inside.free c.self.inside.spare
    c.self.invariant c.written_reads_back.ensures c.args.slot kept
    (subst (λ (s : Slots). IsKept s.slots c.args.slot kept) (sym c.self.view_is) is)
    c.slot_at-old.result c.slot_at-old.ensures in
    let was : finmap.get c.self.inside.region.held c.slot_at-old.result.cell ≡ Some f.octets =
    ap (finmap.get c.self.inside.region.held)
    (same_cell _ c.slot_at-old.result f.there.0 c.slot_at-old.ensures f.there.1) ∙ f.there.3 in
    let stays = put.stays c.self.inside.region.held c.put-handle.new.self.held c.put-handle.result
    c.args.octets.now c.put-handle.ensures.fresh c.put-handle.ensures.here c.put-handle.ensures.others
    c.self.inside.slots.items c.self.inside.free c.self.inside.spare c.self.invariant c.args.slot
    c.slot_at-old.result c.slot_at-old.ensures live in
    let back : c.free.new.self.spare ≡ c.put-handle.new.self.spare + cells_for (length f.octets) =
    come_back _ f.octets (ap (finmap.get c.put-handle.new.self.held) (c.of.ensures ∙ c.cell.ensures) ∙ stays ∙ was)
    c.put-handle.new.self c.free.new.self _ _ c.free.ensures.freed in
    cells_back c.self.inside.region.spare c.put-handle.new.self.spare c.free.new.self.spare
    (cells_for (length c.args.octets.now)) (cells_for (length f.octets))
    (ap (λ (s : Stored). s.spare) c.put-handle.ensures.put)
    (subst (λ (s : Slots). cells_for (length c.args.octets.now) ≤ s.cells) (sym c.self.view_is) c.requires.cells)
    back
    ∙ ap (λ (o : List ℕ). c.self.inside.region.spare + cells_for (length o)) f.spelled.same
    ∙ ap (λ (s : Slots). s.cells + cells_for (length (set_octets kept.set))) c.self.view_is

pub returns-clause-count : goal.returns-clause-count
returns-clause-count c =
    let it = c.requires.spelling in
    let kept = c.requires.taken in
    as_many c.args.self.now.slots _ c.args.slot (Some (record { zone = kept.0.zone; set = it.0 }))
    (returns-clause-slots c it.0 kept.0 it.1 kept.1)
