use Rattle.std.proofs.Common.{◌≡◌, ◌∙◌, ◌+◌, ◌%◌, ◌^◌, ap, arith, [], List, ℕ, length, sym, subst}
use Rattle.std.specs.List.{insert}
use Rattle.zone_list.specs.Orders.{IsOrder, slotted_of}
use Rattle.zone_list.specs.Changes.{CanChange}
use Rattle.zone_list.specs.Found.{IsSplit}
use Rattle.zone_list.specs.Kept.{AreIntact, Listed, named_of, zones_in}
use Rattle.zone_table.specs.declared.edits.ZoneEdit.TheVariants.{Begin}
use Rattle.zone_table.specs.Edits.{Edits}
use Rattle.zone_table.proofs.Edited.{told}
use Rattle.zone_table.proofs.Opening.{can_open, edits_so, empty_order, kept_so, stands_empty}
use Rattle.zone_finding.proofs.Naming.{one_with}
use Rattle.zone_list.specs.SumsRecord.{Sums}
use Rattle.zone_finding.specs.Counted.{AreCounted}
use Rattle.zone_finding.proofs.Totals.{opened_counted}
use Rattle.zone_table.proofs.making.open.Goals as goal

pub change-requires-clause-order : goal.change-requires-clause-order
change-requires-clause-order c =
    let k = c.args.opened in
    subst (λ (order : List ℕ). IsOrder c.args.store.now.slots k.id order) (sym c.requires.empty)
    (empty_order c.args.store.now.slots c.args.list.now.items c.requires.kept k.id
    (λ is. c.requires.allowed.0 (one_with c.args.store.now.slots c.args.list.now.items k.id is)))

pub change-requires-clause-can : goal.change-requires-clause-can
change-requires-clause-can c =
    let k = c.args.opened in
    let slots = c.args.store.now.slots in
    subst (λ (order : List ℕ). CanChange k.apex (slotted_of slots k.id order) [] c.args.add.now)
    (sym c.requires.empty) (can_open k.apex c.args.add.now c.requires.allowed.2)

-- the place before which the zone is put
place_of : (c : goal.After-from_vec-2) → IsSplit (named_of c.args.list.now.items) c.args.opened.id
    c.first_from-place.result c.first_from-place.result
place_of c =
    subst (λ (i : ℕ). IsSplit (named_of c.args.list.now.items) i c.first_from-place.result
    c.first_from-place.result) c.id-zone.ensures
    (subst (λ (l : List Listed). IsSplit (named_of l) c.id-zone.result c.first_from-place.result
    c.first_from-place.result) c.deref.ensures.value c.first_from-place.ensures)

pub returns-clause-kept : goal.returns-clause-kept
returns-clause-kept c =
    let made = c.change.new in
    subst (λ (l : List Listed). AreIntact made.store.slots l) (sym c.insert_zone.ensures)
    (kept_so c.args.store.now.slots made.store.slots c.args.list.now.items c.first_from-place.result
    c.args.opened made.self c.args.add.now made.removed.items made.added.items c.requires.kept
    c.requires.allowed c.requires.empty c.requires.none c.change.ensures.id c.change.ensures.apex
    c.change.ensures.order c.change.ensures.changes c.change.ensures.others c.change.ensures.sums
    (place_of c))

pub returns-clause-edits : goal.returns-clause-edits
returns-clause-edits c =
    let made = c.change.new in
    let zones = zones_in c.args.store.now.slots c.args.list.now.items in
    let begun = Begin c.args.opened.id c.args.opened.apex c.args.add.now in
    let edits : Edits zones begun
    (zones_in made.store.slots (insert c.args.list.now.items c.first_from-place.result made.self))
    (record { zone = c.args.opened.id; removed = made.removed.items; added = made.added.items }) =
    edits_so c.args.store.now.slots made.store.slots c.args.list.now.items c.first_from-place.result
    c.args.opened made.self c.args.add.now made.removed.items made.added.items c.requires.kept
    c.requires.allowed c.requires.empty c.requires.none c.change.ensures.id c.change.ensures.apex
    c.change.ensures.order c.change.ensures.changes c.change.ensures.others c.change.ensures.sums
    (place_of c) in
    subst (λ (l : List Listed). Edits zones begun (zones_in made.store.slots l)
    (record { zone = c.id-zone.result; removed = c.from_vec.result; added = c.from_vec-2.result }))
    (sym c.insert_zone.ensures)
    (told zones begun
    (zones_in made.store.slots (insert c.args.list.now.items c.first_from-place.result made.self))
    c.id-zone.result made.removed.items c.from_vec.result made.added.items c.from_vec-2.result
    c.from_vec.ensures c.from_vec-2.ensures
    (subst (λ (i : ℕ). Edits zones begun
    (zones_in made.store.slots (insert c.args.list.now.items c.first_from-place.result made.self))
    (record { zone = i; removed = made.removed.items; added = made.added.items }))
    (sym c.id-zone.ensures) edits))

pub change-requires-clause-sums : goal.change-requires-clause-sums
change-requires-clause-sums c =
    let k = c.args.opened in
    (stands_empty c.args.store.now.slots c.args.list.now.items c.requires.kept k c.requires.empty c.requires.none c.requires.allowed.3
    (λ is. c.requires.allowed.0 (one_with c.args.store.now.slots c.args.list.now.items k.id is))).counted

pub returns-clause-counted : goal.returns-clause-counted
returns-clause-counted c =
    let list = c.args.list.now.items in
    let k = c.change.new.self in
    let n = c.first_from-place.result in
    let octets = ap (λ (x : Sums). x.octets) c.sums.ensures in
    let sets = c.change.ensures.sets in
    let none = ap (λ (xs : List ℕ). length xs) c.requires.empty in
    subst (λ (l : List Listed). AreCounted c.change.new.store l c.recount.result) (sym c.insert_zone.ensures)
    (opened_counted c.args.store.now c.change.new.store list c.args.octets.now c.requires.counted
    c.change.ensures.slots c.recount.result c.recount.ensures.few n k (omega (arith, sets, none))
    (c.recount.ensures.again ∙ ap (λ m. (c.args.octets.now + m) % 2 ^ 64) octets))
