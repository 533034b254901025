use Rattle.std.proofs.Common.{None, ◌-◌, Some, map, set, sym, ap, subst, ◌∙◌}
use Rattle.set_store.specs.Index.{IsIntact, kept_in}
use Rattle.set_store.specs.Stored.{IsVacant, Slots}
use Rattle.set_store.proofs.Keeping.{is_cell, some_spare}
use Rattle.set_store.proofs.Lists.{as_many, elsewhere, here}
use Rattle.set_store.proofs.Puts.{filled, front, inside, put_seen, vacant}
use Rattle.set_store.proofs.store.SetSlots.put.Goals as goal

pub fill-self-inside-requires : goal.fill-self-inside-requires
fill-self-inside-requires c =
    inside c.self.inside.region.held c.put-handle.new.self.held c.put-handle.result c.args.octets.now
    c.put-handle.ensures.fresh c.put-handle.ensures.here c.put-handle.ensures.others c.self.inside.slots.items
    c.self.inside.free c.self.inside.spare c.self.invariant
    (some_spare c.self.inside.spare c.args.self.now.free (ap (λ
    (s : Slots). s.free) c.self.view_is) c.requires.slot)
    (is_cell c.put-handle.result c.self.inside.region.cells c.cells.result c.cells.ensures.cells
    c.cells.ensures.most c.put-handle.ensures.below)
    c.args.zone c.tag_in.result c.tag_in.ensures.tag

pub invariant_of-self : goal.invariant_of-self
invariant_of-self c =
    let slots = c.self.inside.slots.items in
    let at_front = front c.self.inside.region.held c.put-handle.new.self.held c.put-handle.result
    c.args.octets.now
    c.put-handle.ensures.fresh c.put-handle.ensures.here c.put-handle.ensures.others c.self.inside.slots.items
    c.self.inside.free c.self.inside.spare c.self.invariant
    (some_spare c.self.inside.spare c.args.self.now.free (ap (λ
    (s : Slots). s.free) c.self.view_is) c.requires.slot)
    (is_cell c.put-handle.result c.self.inside.region.cells c.cells.result c.cells.ensures.cells
    c.cells.ensures.most c.put-handle.ensures.below)
    c.args.zone c.tag_in.result c.tag_in.ensures.tag in
    let is = filled c.self.inside.region.held c.put-handle.new.self.held c.put-handle.result c.args.octets.now
    c.put-handle.ensures.fresh c.put-handle.ensures.here c.put-handle.ensures.others c.self.inside.slots.items
    c.self.inside.free c.self.inside.spare c.self.invariant
    (some_spare c.self.inside.spare c.args.self.now.free (ap (λ
    (s : Slots). s.free) c.self.view_is) c.requires.slot)
    (is_cell c.put-handle.result c.self.inside.region.cells c.cells.result c.cells.ensures.cells
    c.cells.ensures.most c.put-handle.ensures.below)
    c.args.zone c.tag_in.result c.tag_in.ensures.tag
    c.requires.spelling c.fill-self-inside.result (c.fill-self-inside.ensures.next at_front.0 at_front.1) in
    subst (λ xs. IsIntact c.put-handle.new.self.held xs c.fill-self-inside.result (c.self.inside.spare - 1))
    (ap (set slots c.self.inside.free) (sym (c.taken-new.ensures ∙ ap (λ k.
    record { cell = k; tag = c.tag_in.result; zone = c.args.zone }) c.number.ensures))
    ∙ sym c.fill-self-inside.ensures.slots) is

pub returns-clause-vacant : goal.returns-clause-vacant
returns-clause-vacant c =
    subst (λ (s : Slots). IsVacant s.slots c.self.inside.free) c.self.view_is
    (vacant c.self.inside.region.held c.put-handle.new.self.held c.put-handle.result c.args.octets.now
    c.put-handle.ensures.fresh c.put-handle.ensures.here c.put-handle.ensures.others c.self.inside.slots.items
    c.self.inside.free c.self.inside.spare c.self.invariant
    (some_spare c.self.inside.spare c.args.self.now.free (ap (λ
    (s : Slots). s.free) c.self.view_is) c.requires.slot)
    (is_cell c.put-handle.result c.self.inside.region.cells c.cells.result c.cells.ensures.cells
    c.cells.ensures.most c.put-handle.ensures.below)
    c.args.zone c.tag_in.result c.tag_in.ensures.tag)

pub returns-clause-slots : goal.returns-clause-slots
returns-clause-slots c it spells =
    let slots = c.self.inside.slots.items in
    let put = Some (record { zone = c.args.zone; set = it }) in
    ap (map (kept_in c.put-handle.new.self.held)) (c.fill-self-inside.ensures.slots
    ∙ ap (set slots c.self.inside.free) (c.taken-new.ensures ∙ ap (λ k.
    record { cell = k; tag = c.tag_in.result; zone = c.args.zone }) c.number.ensures))
    ∙ put_seen c.self.inside.region.held c.put-handle.new.self.held c.put-handle.result c.args.octets.now
    c.put-handle.ensures.fresh c.put-handle.ensures.here c.put-handle.ensures.others c.self.inside.slots.items
    c.self.inside.free c.self.inside.spare c.self.invariant
    (some_spare c.self.inside.spare c.args.self.now.free (ap (λ
    (s : Slots). s.free) c.self.view_is) c.requires.slot)
    (is_cell c.put-handle.result c.self.inside.region.cells c.cells.result c.cells.ensures.cells
    c.cells.ensures.most c.put-handle.ensures.below)
    c.args.zone c.tag_in.result c.tag_in.ensures.tag
    c.written_reads_back.ensures it spells
    ∙ ap (λ (s : Slots). set s.slots c.self.inside.free put) c.self.view_is

pub returns-clause-here : goal.returns-clause-here
returns-clause-here c it spells =
    here c.args.self.now.slots _ c.self.inside.free None (Some (record { zone = c.args.zone; set = it }))
    (returns-clause-vacant c) (returns-clause-slots c it spells)

pub returns-clause-others : goal.returns-clause-others
returns-clause-others c other ne =
    let it = c.requires.spelling in
    elsewhere c.args.self.now.slots _ c.self.inside.free (Some (record { zone = c.args.zone; set = it.0 }))
    (returns-clause-slots c it.0 it.1) other ne

pub returns-clause-count : goal.returns-clause-count
returns-clause-count c =
    let it = c.requires.spelling in
    as_many c.args.self.now.slots _ c.self.inside.free (Some (record { zone = c.args.zone; set = it.0 }))
    (returns-clause-slots c it.0 it.1)
