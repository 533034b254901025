use Rattle.std.proofs.Common.{ℕ, List, length, Some, ◌+◌, None, map, set, sym, ap, subst, ◌∙◌}
use Rattle.set_store.specs.Index.{IsIntact, kept_in}
use Rattle.set_store.specs.Stored.{IsKept, IsInUse, Slots}
use Rattle.set_store.proofs.Reading.{found_in}
use Rattle.set_store.proofs.Back.{come_back, same_cell}
use Rattle.set_scratch.specs.Octets.{set_octets}
use Rattle.set_scratch.specs.Cells.{cells_for}
use Rattle.std.specs.FinMap as finmap
use Rattle.set_store.proofs.Keeping.{is_live}
use Rattle.set_store.proofs.Lists.{as_many, elsewhere, here}
use Rattle.set_store.proofs.Takes.{taken, taken_seen}
use Rattle.set_store.proofs.store.SetSlots.take.Goals as goal

pub invariant_of-self : goal.invariant_of-self
invariant_of-self c =
    let live = is_live c.self.inside.region.held c.self.inside.slots.items c.args.slot c.slot_at-gone.result
    c.slot_at-gone.ensures (subst (λ (s : Slots). IsInUse s.slots c.args.slot)
    (sym c.self.view_is) c.requires.taken) in
    subst (λ xs. IsIntact c.free.new.self.held xs c.args.slot (c.self.inside.spare + 1))
    (sym (c.set_slot.ensures ∙ ap (set c.self.inside.slots.items c.args.slot) c.vacant.ensures))
    (taken c.self.inside.region.held c.free.new.self.held c.self.inside.slots.items c.self.inside.free
    c.self.inside.spare
    c.self.invariant c.args.slot c.slot_at-gone.result c.slot_at-gone.ensures live
    (λ other ne. c.free.ensures.others other (λ e. ne (e ∙ (c.of.ensures ∙ c.cell.ensures)))))

pub returns-clause-slots : goal.returns-clause-slots
returns-clause-slots c =
    let live = is_live c.self.inside.region.held c.self.inside.slots.items c.args.slot c.slot_at-gone.result
    c.slot_at-gone.ensures (subst (λ (s : Slots). IsInUse s.slots c.args.slot)
    (sym c.self.view_is) c.requires.taken) in
    ap (map (kept_in c.free.new.self.held))
    (c.set_slot.ensures ∙ ap (set c.self.inside.slots.items c.args.slot) c.vacant.ensures)
    ∙ taken_seen c.self.inside.region.held c.free.new.self.held c.self.inside.slots.items c.self.inside.free
    c.self.inside.spare
    c.self.invariant c.args.slot c.slot_at-gone.result c.slot_at-gone.ensures live
    (λ other ne. c.free.ensures.others other (λ e. ne (e ∙ (c.of.ensures ∙ c.cell.ensures))))
    ∙ ap (λ (s : Slots). set s.slots c.args.slot None) c.self.view_is

pub returns-clause-gone : goal.returns-clause-gone
returns-clause-gone c =
    let kept = c.requires.taken in
    here c.args.self.now.slots _ c.args.slot (Some kept.0) None kept.1 (returns-clause-slots c)

pub returns-clause-others : goal.returns-clause-others
returns-clause-others c other ne = elsewhere c.args.self.now.slots _ c.args.slot None
    (returns-clause-slots c) other ne

pub returns-clause-cells : goal.returns-clause-cells
returns-clause-cells c kept is =
    let f = found_in c.self.inside.region.held c.self.inside.slots.items c.self.inside.free c.self.inside.spare
    c.self.invariant c.written_reads_back.ensures c.args.slot kept
    (subst (λ (s : Slots). IsKept s.slots c.args.slot kept) (sym c.self.view_is) is)
    c.slot_at-gone.result c.slot_at-gone.ensures in
    come_back _ f.octets (ap (λ (h : ℕ). finmap.get c.self.inside.region.held h) (c.of.ensures ∙ c.cell.ensures ∙ same_cell _ c.slot_at-gone.result f.there.0 c.slot_at-gone.ensures f.there.1) ∙ f.there.3) c.self.inside.region c.free.new.self _ _
    c.free.ensures.freed
    ∙ ap (λ (o : List ℕ). c.self.inside.region.spare + cells_for (length o)) f.spelled.same
    ∙ ap (λ (s : Slots). s.cells + cells_for (length (set_octets kept.set))) c.self.view_is

pub returns-clause-count : goal.returns-clause-count
returns-clause-count c = as_many c.args.self.now.slots _ c.args.slot None (returns-clause-slots c)
