use Rattle.std.proofs.Common.{List, subst, arith}
use Rattle.std.proofs.lemmas.List.{length-set}
use Rattle.zone_list.specs.Found.{IsAt}
use Rattle.zone_list.specs.Kept.{Listed, named_of}
use Rattle.zone_list.specs.Zones.{IsZoneId}
use Rattle.zone_finding.proofs.Naming.{it_is}
use Rattle.zone_table.proofs.Rooms.{can_take, none_to_take, on_ok_so, room_kept, rows_kept}
use Rattle.zone_table.proofs.needs.reserve_in.Goals as goal

pub returns-in-Some-clause-rows : goal.returns-in-Some-clause-rows
returns-in-Some-clause-rows c =
    let items = c.args.list.now.items in
    let i = c.in-Some.place in
    let k = c.index_mut.result.now in
    let found : IsAt (named_of items) c.args.zone i =
    subst (λ (l : List Listed). IsAt (named_of l) c.args.zone i) c.deref.ensures.value c.in-Some.ensures in
    let it = it_is items c.args.zone i found k c.index_mut.ensures.value in
    let r = c.reserve.ensures in
    rows_kept items i k c.reserve.new.self it.1 r.id r.apex r.order r.sums

pub returns-in-Some-clause-room : goal.returns-in-Some-clause-room
returns-in-Some-clause-room c =
    let items = c.args.list.now.items in
    let i = c.in-Some.place in
    let k = c.index_mut.result.now in
    let found : IsAt (named_of items) c.args.zone i =
    subst (λ (l : List Listed). IsAt (named_of l) c.args.zone i) c.deref.ensures.value c.in-Some.ensures in
    let it = it_is items c.args.zone i found k c.index_mut.ensures.value in
    on_ok_so c.reserve.result c.reserve.ensures.room
    (can_take items i c.args.zone c.args.more k c.reserve.new.self c.requires it.0 it.1 it.2)

pub returns-in-Some-clause-kept : goal.returns-in-Some-clause-kept
returns-in-Some-clause-kept c =
    let items = c.args.list.now.items in
    let i = c.in-Some.place in
    let k = c.index_mut.result.now in
    let found : IsAt (named_of items) c.args.zone i =
    subst (λ (l : List Listed). IsAt (named_of l) c.args.zone i) c.deref.ensures.value c.in-Some.ensures in
    let it = it_is items c.args.zone i found k c.index_mut.ensures.value in
    let many = length-set items i c.reserve.new.self in
    record {
      spare = omega (arith, many);
      rooms = room_kept items i k c.reserve.new.self it.0 it.1 c.reserve.ensures.kept;
    }

pub returns-in-None-clause-room : goal.returns-in-None-clause-room
returns-in-None-clause-room c =
    let items = c.args.list.now.items in
    let none : IsZoneId (named_of items) c.args.zone → ⊥ =
    subst (λ (l : List Listed). IsZoneId (named_of l) c.args.zone → ⊥) c.deref.ensures.value
    c.in-None.ensures in
    none_to_take items c.args.zone c.args.more none
