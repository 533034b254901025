use Rattle.std.proofs.Common.{◌≡◌, ◌∙◌, ◌+◌, ◌%◌, ◌^◌, ap, [], List, suc, take, drop, sym, subst, arith}
use Rattle.std.specs.List.{remove}
use Rattle.zone_list.proofs.Among.{among_at}
use Rattle.zone_list.specs.Found.{IsAt}
use Rattle.zone_list.specs.Kept.{AreIntact, Listed, named_of, zone_in, zones_in}
use Rattle.zone_list.specs.Zones.{IsZoneId}
use Rattle.zone_table.specs.declared.edits.ZoneEdit.TheVariants.{End}
use Rattle.zone_table.specs.Edits.{Edits}
use Rattle.zone_table.proofs.Edited.{closed_edits, told}
use Rattle.zone_table.proofs.Kept.{all_zones, closed_kept, closed_zones}
use Rattle.zone_finding.proofs.Naming.{as_many_sets, inside_of, it_is, one_named, stands_here, with_sets}
use Rattle.zone_list.specs.SumsRecord.{Sums}
use Rattle.zone_finding.specs.Counted.{AreCounted}
use Rattle.zone_finding.proofs.Totals.{closed_counted}
use Rattle.zone_table.proofs.making.close.Goals as goal

pub unreachable-requires : goal.unreachable-requires
unreachable-requires c =
    let list = c.args.list.now.items in
    let none : IsZoneId (named_of list) c.args.zone → ⊥ =
    subst (λ (l : List Listed). IsZoneId (named_of l) c.args.zone → ⊥) c.deref.ensures.value
    c.in_default.ensures in
    none (one_named c.args.store.now.slots list c.args.zone c.requires.allowed)

pub remove-closed-requires : goal.remove-closed-requires
remove-closed-requires c =
    let list = c.args.list.now.items in
    let found : IsAt (named_of list) c.args.zone c.in-Some.place =
    subst (λ (l : List Listed). IsAt (named_of l) c.args.zone c.in-Some.place) c.deref.ensures.value
    c.in-Some.ensures in
    let inside = inside_of list c.args.zone c.in-Some.place found in
    let many = c.args.list.now.ok.0 in
    omega (arith, inside, many)

pub close-requires-clause-order : goal.close-requires-clause-order
close-requires-clause-order c =
    let list = c.args.list.now.items in
    let k = c.remove-closed.result in
    let found : IsAt (named_of list) c.args.zone c.in-Some.place =
    subst (λ (l : List Listed). IsAt (named_of l) c.args.zone c.in-Some.place) c.deref.ensures.value
    c.in-Some.ensures in
    let it = it_is list c.args.zone c.in-Some.place found k c.remove-closed.ensures.value in
    (stands_here c.args.store.now.slots list c.requires.kept k
    (among_at list c.in-Some.place k it.1)).order

pub close-requires-clause-room : goal.close-requires-clause-room
close-requires-clause-room c =
    let slots = c.args.store.now.slots in
    let list = c.args.list.now.items in
    let k = c.remove-closed.result in
    let found : IsAt (named_of list) c.args.zone c.in-Some.place =
    subst (λ (l : List Listed). IsAt (named_of l) c.args.zone c.in-Some.place) c.deref.ensures.value
    c.in-Some.ensures in
    let it = it_is list c.args.zone c.in-Some.place found k c.remove-closed.ensures.value in
    let many = as_many_sets slots list c.args.zone c.in-Some.place c.requires.kept.listed found k it.0
    c.remove-closed.ensures.value in
    let enough = c.requires.removable in
    omega (arith, many, enough)

pub returns-clause-kept : goal.returns-clause-kept
returns-clause-kept c =
    let slots = c.args.store.now.slots in
    let list = c.args.list.now.items in
    let i = c.in-Some.place in
    let k = c.remove-closed.result in
    let found : IsAt (named_of list) c.args.zone i =
    subst (λ (l : List Listed). IsAt (named_of l) c.args.zone i) c.deref.ensures.value
    c.in-Some.ensures in
    let it = it_is list c.args.zone i found k c.remove-closed.ensures.value in
    subst (λ (l : List Listed). AreIntact c.close.new.store.slots l) (sym c.remove-closed.ensures.items)
    (closed_kept slots c.close.new.store.slots list i k it.1 c.requires.kept c.close.ensures.others
    c.close.ensures.order)

pub returns-clause-edits : goal.returns-clause-edits
returns-clause-edits c =
    let slots = c.args.store.now.slots in
    let now = c.close.new.store.slots in
    let list = c.args.list.now.items in
    let i = c.in-Some.place in
    let k = c.remove-closed.result in
    let found : IsAt (named_of list) c.args.zone i =
    subst (λ (l : List Listed). IsAt (named_of l) c.args.zone i) c.deref.ensures.value
    c.in-Some.ensures in
    let it = it_is list c.args.zone i found k c.remove-closed.ensures.value in
    let removed = c.close.new.removed.items in
    let none : c.from_vec-2.result ≡ [] = c.from_vec-2.ensures ∙ c.requires.none_added in
    subst (λ (l : List Listed). Edits (zones_in slots list) (End c.args.zone) (zones_in now l)
    (record { zone = c.args.zone; removed = c.from_vec.result; added = c.from_vec-2.result }))
    (sym c.remove-closed.ensures.items)
    (told (zones_in slots list) (End c.args.zone) (zones_in now (remove list i)) c.args.zone
    removed c.from_vec.result [] c.from_vec-2.result c.from_vec.ensures none
    (closed_edits (zones_in slots list) (zones_in now (remove list i))
    (zones_in slots (take i list)) (zones_in slots (drop (suc i) list)) (zone_in slots k)
    (all_zones slots now list i k it.1 c.requires.kept c.close.ensures.others c.close.ensures.order)
    (closed_zones slots now list i k it.1 c.requires.kept c.close.ensures.others c.close.ensures.order)
    (with_sets slots list c.requires.kept.listed) c.args.zone removed it.2 c.close.ensures.told))

pub returns-clause-counted : goal.returns-clause-counted
returns-clause-counted c =
    let list = c.args.list.now.items in
    let i = c.in-Some.place in
    let k = c.remove-closed.result in
    let found : IsAt (named_of list) c.args.zone i =
    subst (λ (l : List Listed). IsAt (named_of l) c.args.zone i) c.deref.ensures.value
    c.in-Some.ensures in
    let it = it_is list c.args.zone i found k c.remove-closed.ensures.value in
    let octets = ap (λ (x : Sums). x.octets) c.sums.ensures in
    subst (λ (l : List Listed). AreCounted c.close.new.store l c.recount.result) (sym c.remove-closed.ensures.items)
    (closed_counted c.args.store.now c.close.new.store list c.args.octets.now c.requires.counted
    c.close.ensures.slots c.recount.result c.recount.ensures.few i k it.1 c.close.ensures.sets
    (ap (λ n. (c.recount.result + n) % 2 ^ 64) (sym octets) ∙ c.recount.ensures.again))
