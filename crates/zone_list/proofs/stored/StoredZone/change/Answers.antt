use Rattle.std.proofs.Common.{◌∙◌, [], List, length, ap, subst, sym}
use Rattle.zone_changes.specs.Orders.{IsOrder, slotted_of, set_in}
use Rattle.zone_changes.proofs.Orders.{of_zone}
use Rattle.zone_list.specs.declared.refs.SetRef.{SetRef}
use Rattle.zone_list.specs.Changes.{CanChange, Changes}
use Rattle.zone_list.specs.Kept.{Listed}
use Rattle.zone_list.specs.Steps.{Goings}
use Rattle.zone_list.proofs.Coming.{comings_as_many}
use Rattle.zone_list.proofs.Made.{changed, still_there}
use Rattle.zone_list.proofs.stored.StoredZone.change.Goals as goal

pub leave_all-requires-clause-there : goal.leave_all-requires-clause-there
leave_all-requires-clause-there c =
    let s = c.self.inside in
    let slots = c.args.store.now.slots in
    let order : IsOrder slots s.id s.order.items =
    subst (λ (k : Listed). IsOrder slots k.id k.order) (sym c.self.view_is) c.requires.order in
    let can : CanChange s.apex (slotted_of slots s.id s.order.items) c.args.remove.now c.args.add.now =
    subst (λ (k : Listed). CanChange k.apex (slotted_of slots k.id k.order) c.args.remove.now c.args.add.now)
    (sym c.self.view_is) c.requires.can in
    still_there s.id s.apex (slotted_of slots s.id s.order.items)
    (slotted_of c.come_all.new.store.slots s.id c.come_all.new.order.items) [] c.args.remove.now
    c.args.add.now [] c.come_all.new.added.items (of_zone (set_in slots s.id) s.order.items order)
    c.come_all.ensures.comes can

pub leave_all-requires-clause-told : goal.leave_all-requires-clause-told
leave_all-requires-clause-told c =
    let s = c.self.inside in
    ap (λ (refs : List SetRef). length refs) c.deref.ensures.value
    ∙ comings_as_many s.id (slotted_of c.args.store.now.slots s.id s.order.items) c.args.add.now
    c.come_all.new.added.items _ c.come_all.ensures.comes

pub returns-clause-changes : goal.returns-clause-changes
returns-clause-changes c =
    let s = c.self.inside in
    let slots = c.args.store.now.slots in
    let order : IsOrder slots s.id s.order.items =
    subst (λ (k : Listed). IsOrder slots k.id k.order) (sym c.self.view_is) c.requires.order in
    let can : CanChange s.apex (slotted_of slots s.id s.order.items) c.args.remove.now c.args.add.now =
    subst (λ (k : Listed). CanChange k.apex (slotted_of slots k.id k.order) c.args.remove.now c.args.add.now)
    (sym c.self.view_is) c.requires.can in
    let middle = slotted_of c.come_all.new.store.slots s.id c.come_all.new.order.items in
    let after = slotted_of c.leave_all.new.store.slots s.id c.leave_all.new.order.items in
    let removed = c.leave_all.new.removed.items in
    let added = c.come_all.new.added.items in
    subst (λ (k : Listed). Changes k.id (slotted_of slots k.id k.order) c.args.remove.now c.args.add.now
    removed added after) c.self.view_is
    (changed s.id s.apex (slotted_of slots s.id s.order.items) middle after c.args.remove.now
    c.args.add.now removed added (of_zone (set_in slots s.id) s.order.items order)
    c.come_all.ensures.comes can
    (subst (λ (refs : List SetRef). Goings s.id c.args.add.now refs middle c.args.remove.now removed after)
    c.deref.ensures.value c.leave_all.ensures.leaves)
    (of_zone (set_in c.leave_all.new.store.slots s.id) c.leave_all.new.order.items
    c.leave_all.ensures.order))
