use Rattle.std.proofs.Common.{◌≡◌, ◌∙◌, List, ap, refl, sym, subst}
use Rattle.zone_list.specs.Kept.{Listed, zones_in}
use Rattle.zone_table.specs.Edits.{IsAllowed, StayReady}
use Rattle.zone_table.specs.Needs.{NeedsOfEdit}
use Rattle.zone_table.specs.Tables.{Table}
use Rattle.zone_table.proofs.Apexes.{still_known}
use Rattle.zone_table.proofs.Rooms.{counts_still, is_ready, rows_counted, rows_are_kept, rows_zones, same_room}
use Rattle.zone_table.proofs.Rooms.{spelled_of, stay_ready, still_kept, still_zones, table_of}
use Rattle.zone_finding.proofs.Totals.{roomy}
use Rattle.zone_table.proofs.zones.Zones.reserve.Goals as goal

pub need_of-requires-clause-spelled : goal.need_of-requires-clause-spelled
need_of-requires-clause-spelled c = spelled_of c.args.self.now.zones c.args.edit.now c.requires

pub invariant_of-self-in_err-make_room : goal.invariant_of-self-in_err-make_room
invariant_of-self-in_err-make_room c = (
  still_kept c.self.inside.store.slots c.make_room.new.store.slots c.make_room.ensures.stay
      c.self.inside.list.items c.self.invariant.0,
  roomy c.self.inside.store c.make_room.new.store c.self.inside.list.items c.self.inside.octets
      c.self.invariant.1 c.make_room.ensures.slots,
  still_known c.self.inside.apexes c.reserve_name.new.apexes
      (zones_in c.self.inside.store.slots c.self.inside.list.items)
      (zones_in c.make_room.new.store.slots c.self.inside.list.items) c.reserve_name.ensures
      (still_zones c.self.inside.store.slots c.make_room.new.store.slots c.make_room.ensures.stay
      c.self.inside.list.items) c.self.invariant.2,
)

pub returns-in_err-make_room-clause-others : goal.returns-in_err-make_room-clause-others
returns-in_err-make_room-clause-others c =
    let s = c.self.inside in
    let store = c.make_room.new.store in
    subst (λ (t : Table). StayReady t (table_of store s.list s.collections s.edits)) c.self.view_is
    (stay_ready s.store store s.list s.list s.collections s.edits
    (still_zones s.store.slots store.slots c.make_room.ensures.stay s.list.items)
    c.make_room.ensures.free c.make_room.ensures.cells (same_room s.list) refl)

pub invariant_of-self-in_err-reserve_for : goal.invariant_of-self-in_err-reserve_for
invariant_of-self-in_err-reserve_for c =
    let s = c.self.inside in
    let store = c.make_room.new.store in (
      rows_are_kept store.slots s.list.items c.reserve_for.new.list.items c.reserve_for.ensures.rows
          (still_kept s.store.slots store.slots c.make_room.ensures.stay s.list.items c.self.invariant.0),
      rows_counted store s.list.items c.reserve_for.new.list.items s.octets c.reserve_for.ensures.rows
          (roomy s.store store s.list.items s.octets c.self.invariant.1 c.make_room.ensures.slots),
      still_known s.apexes c.reserve_name.new.apexes (zones_in s.store.slots s.list.items)
          (zones_in store.slots c.reserve_for.new.list.items) c.reserve_name.ensures
          (rows_zones store.slots s.list.items c.reserve_for.new.list.items c.reserve_for.ensures.rows
          ∙ still_zones s.store.slots store.slots c.make_room.ensures.stay s.list.items)
          c.self.invariant.2,
    )

pub returns-in_err-reserve_for-clause-zones : goal.returns-in_err-reserve_for-clause-zones
returns-in_err-reserve_for-clause-zones c =
    let s = c.self.inside in
    let store = c.make_room.new.store in
    rows_zones store.slots s.list.items c.reserve_for.new.list.items c.reserve_for.ensures.rows
    ∙ (still_zones s.store.slots store.slots c.make_room.ensures.stay s.list.items
    ∙ ap (λ (t : Table). t.zones) c.self.view_is)

pub returns-in_err-reserve_for-clause-others : goal.returns-in_err-reserve_for-clause-others
returns-in_err-reserve_for-clause-others c =
    let s = c.self.inside in
    let store = c.make_room.new.store in
    let list = c.reserve_for.new.list in
    subst (λ (t : Table). StayReady t (table_of store list s.collections s.edits)) c.self.view_is
    (stay_ready s.store store s.list list s.collections s.edits
    (rows_zones store.slots s.list.items list.items c.reserve_for.ensures.rows
    ∙ still_zones s.store.slots store.slots c.make_room.ensures.stay s.list.items)
    c.make_room.ensures.free c.make_room.ensures.cells c.reserve_for.ensures.kept
    c.reserve_for.ensures.rows)

pub invariant_of-self-2 : goal.invariant_of-self-2
invariant_of-self-2 c =
    let s = c.self.inside in
    let store = c.make_room.new.store in (
      rows_are_kept store.slots s.list.items c.reserve_for.new.list.items c.reserve_for.ensures.rows
          (still_kept s.store.slots store.slots c.make_room.ensures.stay s.list.items c.self.invariant.0),
      rows_counted store s.list.items c.reserve_for.new.list.items s.octets c.reserve_for.ensures.rows
          (roomy s.store store s.list.items s.octets c.self.invariant.1 c.make_room.ensures.slots),
      still_known s.apexes c.reserve_name.new.apexes (zones_in s.store.slots s.list.items)
          (zones_in store.slots c.reserve_for.new.list.items) c.reserve_name.ensures
          (rows_zones store.slots s.list.items c.reserve_for.new.list.items c.reserve_for.ensures.rows
          ∙ still_zones s.store.slots store.slots c.make_room.ensures.stay s.list.items)
          c.self.invariant.2,
    )

pub returns-clause-zones : goal.returns-clause-zones
returns-clause-zones c =
    let s = c.self.inside in
    let store = c.make_room.new.store in
    rows_zones store.slots s.list.items c.reserve_for.new.list.items c.reserve_for.ensures.rows
    ∙ (still_zones s.store.slots store.slots c.make_room.ensures.stay s.list.items
    ∙ ap (λ (t : Table). t.zones) c.self.view_is)

pub returns-clause-room : goal.returns-clause-room
returns-clause-room c =
    let s = c.self.inside in
    let store = c.make_room.new.store in
    let list = c.reserve_for.new.list in
    let edit = c.args.edit.now in
    let need = c.in_ok-need.need in
    let same : zones_in store.slots list.items ≡ c.args.self.now.zones =
    rows_zones store.slots s.list.items list.items c.reserve_for.ensures.rows
    ∙ (still_zones s.store.slots store.slots c.make_room.ensures.stay s.list.items
    ∙ ap (λ (t : Table). t.zones) c.self.view_is) in
    let allowed : IsAllowed (zones_in store.slots list.items) edit =
    subst (λ zs. IsAllowed zs edit) (sym same) c.requires in
    let counts : NeedsOfEdit list.items edit need =
    counts_still s.list.items list.items c.reserve_for.ensures.rows edit need
    (subst (λ (l : List Listed). NeedsOfEdit l edit need) c.deref.ensures.value c.in_ok-need.ensures) in
    λ ready prepared. is_ready store list s.collections s.edits need ready c.in_ok-make_room.ensures.room.0
    c.in_ok-make_room.ensures.room.1 edit prepared counts c.in_ok-reserve_for.ensures.room allowed

pub returns-clause-others : goal.returns-clause-others
returns-clause-others c =
    let s = c.self.inside in
    let store = c.make_room.new.store in
    let list = c.reserve_for.new.list in
    subst (λ (t : Table). StayReady t (table_of store list s.collections s.edits)) c.self.view_is
    (stay_ready s.store store s.list list s.collections s.edits
    (rows_zones store.slots s.list.items list.items c.reserve_for.ensures.rows
    ∙ still_zones s.store.slots store.slots c.make_room.ensures.stay s.list.items)
    c.make_room.ensures.free c.make_room.ensures.cells c.reserve_for.ensures.kept
    c.reserve_for.ensures.rows)
