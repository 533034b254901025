use Rattle.std.proofs.Common.{◌≡◌, ◌≤◌, ℕ, List, length, set, ap, refl, subst, sym, ◌∙◌, inl}
use Rattle.std.specs.Prelude.{slice_get}
use Rattle.zone_order.specs.Sets.{key_of}
use Rattle.zone_order.specs.Found.{FindsAt, FindsNone}
use Rattle.zone_order.specs.Slotted.{Slotted, sets_of}
use Rattle.zone_order.specs.Orders.{slotted_of, set_in}
use Rattle.zone_changes.proofs.Coming.{gives_way, one_spelled, set_there}
use Rattle.zone_order.specs.Cells.{cells_for}
use Rattle.zone_changes.proofs.Cells.{few_more, put_cells, replaced_cells}
use Rattle.zone_changes.proofs.Counted.{put_sums, replaced_sums}
use Rattle.zone_changes.proofs.single.come.Goals as goal

pub replace_at-requires-clause-there : goal.replace_at-requires-clause-there
replace_at-requires-clause-there c it spells =
    let same = one_spelled c.one_spelling.ensures c.spell-octets.result.now c.args.set.now it
    c.spell-octets.ensures.spells spells in
    subst (λ xs. FindsAt (sets_of (slotted_of c.args.store.now.slots c.args.zone xs))
    (key_of it) c.in-Ok.place)
    (sym c.deref.ensures.value)
    (subst (λ k. FindsAt (sets_of
    (slotted_of c.args.store.now.slots c.args.zone c.args.order.now.items)) k c.in-Ok.place)
    (c.key-key.ensures ∙ ap key_of same) c.in-Ok.ensures)

pub put_at-requires-clause-absent : goal.put_at-requires-clause-absent
put_at-requires-clause-absent c it spells =
    let same = one_spelled c.one_spelling.ensures c.spell-octets.result.now c.args.set.now it
    c.spell-octets.ensures.spells spells in
    subst (λ k. FindsNone (sets_of
    (slotted_of c.args.store.now.slots c.args.zone c.args.order.now.items)) k c.in-Err.place)
    (c.key-key.ensures ∙ ap key_of same) c.in-Err.ensures

pub returns-in-Ok-clause-comes : goal.returns-in-Ok-clause-comes
returns-in-Ok-clause-comes c =
    let slice = c.deref.ensures.value in
    inl (gives_way (set_in c.args.store.now.slots c.args.zone) c.args.order.now.items c.requires.order.present
    c.in-Ok.place c.replace_at.result c.args.set.now _ (ap (λ xs. slice_get xs c.in-Ok.place) (sym slice)
    ∙ c.replace_at.ensures.slot)
    (subst (λ k. FindsAt (sets_of
    (slotted_of c.args.store.now.slots c.args.zone c.args.order.now.items)) k c.in-Ok.place)
    c.key-key.ensures c.in-Ok.ensures)
    (subst (λ xs. slotted_of c.replace_at.new.store.slots c.args.zone xs ≡ set
    (slotted_of c.args.store.now.slots c.args.zone xs) c.in-Ok.place
    (record { slot = c.replace_at.result; set = c.args.set.now })) slice
    (c.replace_at.ensures.replaced c.args.set.now c.spell-octets.ensures.spells)))

pub returns-in-Ok-clause-cells : goal.returns-in-Ok-clause-cells
returns-in-Ok-clause-cells c =
    let slice = c.deref.ensures.value in
    let found = c.in-Ok.ensures in
    let there = set_there (set_in c.args.store.now.slots c.args.zone) c.args.order.now.items
    c.requires.order.present c.in-Ok.place c.replace_at.result found.kept
    (ap (λ xs. slice_get xs c.in-Ok.place) (sym slice) ∙ c.replace_at.ensures.slot) found.there in
    replaced_cells (slotted_of c.args.store.now.slots c.args.zone c.args.order.now.items)
    (record { slot = c.replace_at.result; set = c.args.set.now })
    (record { slot = c.replace_at.result; set = found.kept }) _ c.in-Ok.place there
    (subst (λ xs. slotted_of c.replace_at.new.store.slots c.args.zone xs ≡ set
    (slotted_of c.args.store.now.slots c.args.zone xs) c.in-Ok.place
    (record { slot = c.replace_at.result; set = c.args.set.now })) slice
    (c.replace_at.ensures.replaced c.args.set.now c.spell-octets.ensures.spells))
    c.args.store.now.cells c.replace_at.new.store.cells (cells_for (length c.spell-octets.result.now))
    (ap (λ (o : List ℕ). cells_for (length o)) c.spell-octets.ensures.spells.same)
    (c.replace_at.ensures.cells (record { slot = c.replace_at.result; set = found.kept })
    (ap (λ xs. slice_get (slotted_of c.args.store.now.slots c.args.zone xs) c.in-Ok.place) slice ∙ there))

pub returns-in-Err-clause-cells : goal.returns-in-Err-clause-cells
returns-in-Err-clause-cells c =
    put_cells (slotted_of c.args.store.now.slots c.args.zone c.args.order.now.items)
    (record { slot = c.put_at.result; set = c.args.set.now }) _
    (c.put_at.ensures.put c.args.set.now c.spell-octets.ensures.spells)
    c.args.store.now.cells c.put_at.new.store.cells (cells_for (length c.spell-octets.result.now))
    (ap (λ (o : List ℕ). cells_for (length o)) c.spell-octets.ensures.spells.same)
    (subst (λ (o : List ℕ). cells_for (length o) ≤ c.args.store.now.cells)
    (sym c.spell-octets.ensures.spells.same) c.requires.cells)
    c.put_at.ensures.cells

pub returns-in-Ok-clause-enough : goal.returns-in-Ok-clause-enough
returns-in-Ok-clause-enough c =
    few_more (slotted_of c.args.store.now.slots c.args.zone c.args.order.now.items)
    (record { slot = c.replace_at.result; set = c.args.set.now }) _ (returns-in-Ok-clause-comes c)
    c.args.store.now.cells c.replace_at.new.store.cells (returns-in-Ok-clause-cells c)

pub returns-in-Ok-clause-sums : goal.returns-in-Ok-clause-sums
returns-in-Ok-clause-sums c =
    let slice = c.deref.ensures.value in
    let found = c.in-Ok.ensures in
    let there = set_there (set_in c.args.store.now.slots c.args.zone) c.args.order.now.items
    c.requires.order.present c.in-Ok.place c.replace_at.result found.kept
    (ap (λ xs. slice_get xs c.in-Ok.place) (sym slice) ∙ c.replace_at.ensures.slot) found.there in
    let given : Slotted = record { slot = c.replace_at.result; set = c.args.set.now } in
    let was : Slotted = record { slot = c.replace_at.result; set = found.kept } in
    replaced_sums (slotted_of c.args.store.now.slots c.args.zone c.args.order.now.items) given was _ c.in-Ok.place there
    (subst (λ xs. slotted_of c.replace_at.new.store.slots c.args.zone xs ≡ set
    (slotted_of c.args.store.now.slots c.args.zone xs) c.in-Ok.place given) slice
    (c.replace_at.ensures.replaced c.args.set.now c.spell-octets.ensures.spells))
    c.args.sums.now c.with_set-counted.result c.without_at.result c.requires.sums
    (c.with_set-counted.ensures given refl (ap length c.spell-octets.ensures.spells.same))
    c.without_at.ensures.small (c.without_at.ensures.without was there)

pub returns-in-Err-clause-sums : goal.returns-in-Err-clause-sums
returns-in-Err-clause-sums c =
    let given : Slotted = record { slot = c.put_at.result; set = c.args.set.now } in
    put_sums (slotted_of c.args.store.now.slots c.args.zone c.args.order.now.items) given _
    (c.put_at.ensures.put c.args.set.now c.spell-octets.ensures.spells)
    c.args.sums.now c.with_set-counted.result c.requires.sums
    (c.with_set-counted.ensures given refl (ap length c.spell-octets.ensures.spells.same))
