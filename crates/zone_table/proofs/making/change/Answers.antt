use Rattle.std.proofs.Common.{◌+◌, ◌%◌, ◌^◌, ◌∙◌, ap, List, suc, take, drop, sym, subst, arith}
use Rattle.std.specs.Prelude.{slice_set}
use Rattle.zone_list.proofs.Among.{among_at}
use Rattle.zone_list.specs.Orders.{slotted_of}
use Rattle.zone_list.specs.Changes.{CanChange, Changes}
use Rattle.zone_list.specs.Found.{IsAt}
use Rattle.zone_list.specs.Kept.{Listed, named_of, IsIntact, zone_in, zones_in}
use Rattle.zone_list.specs.Zones.{IsZoneId}
use Rattle.zone_table.specs.declared.edits.ZoneEdit.TheVariants.{Change}
use Rattle.zone_table.proofs.Edited.{changed_edits, its_can, told}
use Rattle.zone_table.proofs.Kept.{changed_kept, changed_stands, changed_zones, whole_zones}
use Rattle.zone_finding.proofs.Naming.{in_map, inside_of, it_is, one_named, stands_here, with_sets}
use Rattle.zone_list.proofs.Lists.{get_same}
use Rattle.zone_finding.proofs.Totals.{changed_counted}
use Rattle.zone_table.proofs.making.change.Goals as goal

pub unreachable-requires : goal.unreachable-requires
unreachable-requires c =
    let list = c.args.list.now.items in
    let none : IsZoneId (named_of list) c.args.zone → ⊥ =
    subst (λ (l : List Listed). IsZoneId (named_of l) c.args.zone → ⊥) c.deref.ensures.value
    c.in_default.ensures in
    none (one_named c.args.store.now.slots list c.args.zone c.requires.allowed.0)

pub index_mut-requires : goal.index_mut-requires
index_mut-requires c =
    let list = c.args.list.now.items in
    let found : IsAt (named_of list) c.args.zone c.in-Some.place =
    subst (λ (l : List Listed). IsAt (named_of l) c.args.zone c.in-Some.place) c.deref.ensures.value
    c.in-Some.ensures in
    let inside = inside_of list c.args.zone c.in-Some.place found in
    let many = c.args.list.now.ok.0 in
    omega (arith, inside, many)

pub change-requires-clause-order : goal.change-requires-clause-order
change-requires-clause-order c =
    let list = c.args.list.now.items in
    let k = c.index_mut.result.now in
    let found : IsAt (named_of list) c.args.zone c.in-Some.place =
    subst (λ (l : List Listed). IsAt (named_of l) c.args.zone c.in-Some.place) c.deref.ensures.value
    c.in-Some.ensures in
    let it = it_is list c.args.zone c.in-Some.place found k c.index_mut.ensures.value in
    (stands_here c.args.store.now.slots list c.requires.kept k (among_at list c.in-Some.place k it.1)).order

pub change-requires-clause-can : goal.change-requires-clause-can
change-requires-clause-can c =
    let slots = c.args.store.now.slots in
    let list = c.args.list.now.items in
    let k = c.index_mut.result.now in
    let found : IsAt (named_of list) c.args.zone c.in-Some.place =
    subst (λ (l : List Listed). IsAt (named_of l) c.args.zone c.in-Some.place) c.deref.ensures.value
    c.in-Some.ensures in
    let it = it_is list c.args.zone c.in-Some.place found k c.index_mut.ensures.value in
    let can : CanChange k.apex (slotted_of slots k.id k.order) c.args.remove.now c.args.add.now =
    its_can (zones_in slots list) (zone_in slots k)
    (in_map (zone_in slots) list k (among_at list c.in-Some.place k it.1))
    (with_sets slots list c.requires.kept.listed) c.args.zone c.args.remove.now c.args.add.now it.2
    c.requires.allowed in
    can

pub change-requires-clause-places : goal.change-requires-clause-places
change-requires-clause-places c =
    let list = c.args.list.now.items in
    let k = c.index_mut.result.now in
    let found : IsAt (named_of list) c.args.zone c.in-Some.place =
    subst (λ (l : List Listed). IsAt (named_of l) c.args.zone c.in-Some.place) c.deref.ensures.value
    c.in-Some.ensures in
    let it = it_is list c.args.zone c.in-Some.place found k c.index_mut.ensures.value in
    c.requires.places c.in-Some.place k it.1 it.2

-- what changed, and what the zone holds now
changes-of : (c : goal.After-from_vec-2) → (IsAt (named_of c.args.list.now.items) c.args.zone c.in-Some.place)
    × Changes c.index_mut.result.now.id
    (slotted_of c.args.store.now.slots c.index_mut.result.now.id c.index_mut.result.now.order)
    c.args.remove.now c.args.add.now c.change.new.removed.items c.change.new.added.items
    (slotted_of c.change.new.store.slots c.change.new.self.id c.change.new.self.order)
changes-of c =
    let slots = c.args.store.now.slots in
    let k = c.index_mut.result.now in
    let made = c.change.new in
    let now = made.store.slots in (
      subst (λ (l : List Listed). IsAt (named_of l) c.args.zone c.in-Some.place) c.deref.ensures.value
          c.in-Some.ensures,
      c.change.ensures.changes,
    )

stands-now : (c : goal.After-from_vec-2) → IsIntact c.change.new.store.slots c.change.new.self
stands-now c =
    let slots = c.args.store.now.slots in
    let list = c.args.list.now.items in
    let i = c.in-Some.place in
    let k = c.index_mut.result.now in
    let made = c.change.new in
    let known = changes-of c in
    let it = it_is list c.args.zone i known.0 k c.index_mut.ensures.value in
    let there = among_at list i k it.1 in
    let can : CanChange k.apex (slotted_of slots k.id k.order) c.args.remove.now c.args.add.now =
    its_can (zones_in slots list) (zone_in slots k) (in_map (zone_in slots) list k there)
    (with_sets slots list c.requires.kept.listed) c.args.zone c.args.remove.now c.args.add.now it.2
    c.requires.allowed in
    changed_stands slots made.store.slots k made.self c.change.ensures.apex c.change.ensures.order
    c.args.remove.now c.args.add.now made.removed.items made.added.items
    known.1 (stands_here slots list c.requires.kept k there) can.added.each c.change.ensures.sums c.change.ensures.id

pub returns-clause-kept : goal.returns-clause-kept
returns-clause-kept c =
    let list = c.args.list.now.items in
    let i = c.in-Some.place in
    let k = c.index_mut.result.now in
    let it = it_is list c.args.zone i (changes-of c).0 k c.index_mut.ensures.value in
    changed_kept c.args.store.now.slots c.change.new.store.slots list i k c.change.new.self it.1 it.0
    c.requires.kept c.change.ensures.others c.change.ensures.id c.change.ensures.apex (stands-now c)

pub returns-clause-edits : goal.returns-clause-edits
returns-clause-edits c =
    let slots = c.args.store.now.slots in
    let list = c.args.list.now.items in
    let i = c.in-Some.place in
    let k = c.index_mut.result.now in
    let known = changes-of c in
    let it = it_is list c.args.zone i known.0 k c.index_mut.ensures.value in
    let made = c.change.new in
    let now = made.store.slots in
    let stands = stands-now c in
    told (zones_in slots list) (Change c.args.zone c.args.remove.now c.args.add.now)
    (zones_in now (slice_set list i made.self)) c.args.zone
    made.removed.items c.from_vec.result made.added.items c.from_vec-2.result c.from_vec.ensures
    c.from_vec-2.ensures
    (changed_edits (zones_in slots list) (zones_in now (slice_set list i made.self))
    (zones_in slots (take i list)) (zones_in slots (drop (suc i) list))
    (zone_in slots k) (zone_in now made.self)
    (whole_zones slots now list i k made.self it.1 it.0 c.requires.kept c.change.ensures.others
    c.change.ensures.id c.change.ensures.apex stands)
    (changed_zones slots now list i k made.self it.1 it.0 c.requires.kept c.change.ensures.others
    c.change.ensures.id c.change.ensures.apex stands)
    (with_sets slots list c.requires.kept.listed)
    (with_sets now (slice_set list i made.self) (returns-clause-kept c).listed)
    c.change.ensures.id c.change.ensures.apex c.args.zone c.args.remove.now c.args.add.now
    made.removed.items made.added.items it.2 known.1)

pub change-requires-clause-sums : goal.change-requires-clause-sums
change-requires-clause-sums c =
    let list = c.args.list.now.items in
    let k = c.index_mut.result.now in
    let found : IsAt (named_of list) c.args.zone c.in-Some.place =
    subst (λ (l : List Listed). IsAt (named_of l) c.args.zone c.in-Some.place) c.deref.ensures.value
    c.in-Some.ensures in
    let it = it_is list c.args.zone c.in-Some.place found k c.index_mut.ensures.value in
    (stands_here c.args.store.now.slots list c.requires.kept k (among_at list c.in-Some.place k it.1)).counted

pub returns-clause-counted : goal.returns-clause-counted
returns-clause-counted c =
    let list = c.args.list.now.items in
    let i = c.in-Some.place in
    let k = c.index_mut.result.now in
    let it = it_is list c.args.zone i (changes-of c).0 k c.index_mut.ensures.value in
    let before = c.octets_at-before.ensures k it.1 in
    let after = c.octets_at.ensures c.change.new.self (get_same list i c.change.new.self it.0) in
    let again = c.recount.ensures.again in
    changed_counted c.args.store.now c.change.new.store list c.args.octets.now c.requires.counted
    c.change.ensures.slots c.recount.result c.recount.ensures.few i k c.change.new.self it.1 c.change.ensures.sets
    (ap (λ n. (c.recount.result + n) % 2 ^ 64) (sym before) ∙ (again
    ∙ ap (λ n. (c.args.octets.now + n) % 2 ^ 64) after))
