use Rattle.std.proofs.Common.{◌≡◌, ◌≤◌, ◌<◌, [], ℕ, List, false, inl, length, ap, sym, arith, ◌∙◌, Some}
use mathlib.Core.Path.{subst}
use Rattle.std.specs.Prelude.{slice_get, vec_capacity}
use Rattle.check_model.specs.Checks.{IsBounded}
use Rattle.check_model.specs.declared.checks.Check.{Check}
use Rattle.health_planning.specs.Building.{AreAsked, AreSeen}
use Rattle.health_planning.specs.Later.{EachIsLater, Knows}
use Rattle.health_planning.specs.SetRefRecord.{SetRef}
use Rattle.health_index.specs.Index.{Index, StandsFor}
use Rattle.health_index.specs.Following.{HaveTheirValves}
use Rattle.health_index.proofs.Again.{anew_for, asked, kept_for, taken, taken_all, taken_whole, tell_all, tells}
use Rattle.health_planning.proofs.Built.{checks_there}
use Rattle.health_index.specs.Kin.{kin_of}
use Rattle.health_index.specs.Room.{HasRoom}
use Rattle.health_planning.specs.Wired.{HaveValves, StandApart, ids_of}
use Rattle.health_index.proofs.Laid.{laid_anew}
use Rattle.health_index.proofs.Knowing.{each_follows, follows_nothing, knows_its, knows_nothing, no_checks, still_reports}
use Rattle.health_planning.proofs.Places.{held_there, ids_apart, of_all}
use Rattle.health_planning.proofs.Roomy.{room_for_fewer}
use Rattle.health_index.proofs.Standing.{stands, whole}
use Rattle.health_planning.proofs.Wiring.{ids_long}
use Rattle.health_index.proofs.index.HealthIndex.lay.Goals as goal

pub list_ids-requires-clause-room : goal.list_ids-requires-clause-room
list_ids-requires-clause-room c =
    let zones = c.args.zones.now.zones in
    let checks = c.args.checks.now.checks in
    let list = c.as_slice-list.ensures.checks in
    let sound = c.as_slice-list.ensures.sound in
    let room = subst (λ (i : Index). HasRoom i c.args.zones.now.slots) (sym c.self.view_is) c.requires.room in
    let few = sound.few in
    let long = ap length list in
    let same = ap (λ v. vec_capacity v) c.swap.ensures.x_after in
    let cleared = c.clear.ensures.capacity in
    let most = room.ids_before in
    omega arith

pub keep_numbers-kept-requires-clause-valves : goal.keep_numbers-kept-requires-clause-valves
keep_numbers-kept-requires-clause-valves c =
    let before = c.deref.ensures.value ∙ ap (λ v. v.items) c.swap.ensures.y_after in
    subst (λ (l : List ℕ). HaveValves (length l) c.self.inside.numbers.items) (sym before) c.self.invariant.numbers

pub keep_numbers-kept-requires-clause-apart : goal.keep_numbers-kept-requires-clause-apart
keep_numbers-kept-requires-clause-apart c =
    let before = c.deref.ensures.value ∙ ap (λ v. v.items) c.swap.ensures.y_after in
    subst StandApart (sym before) c.self.invariant.apart

pub keep_numbers-kept-requires-clause-apart_now : goal.keep_numbers-kept-requires-clause-apart_now
keep_numbers-kept-requires-clause-apart_now c =
    subst (λ (l : List (ℕ × Check)). StandApart (ids_of l)) (sym c.as_slice-list.ensures.checks)
    (ids_apart c.args.checks.now.checks.list c.as_slice-list.ensures.sound.rising)

pub keep_numbers-kept-requires-clause-few : goal.keep_numbers-kept-requires-clause-few
keep_numbers-kept-requires-clause-few c =
    let few = c.as_slice-list.ensures.sound.few in
    let long = ap length c.as_slice-list.ensures.checks in
    omega arith

pub keep_numbers-kept-requires-clause-room : goal.keep_numbers-kept-requires-clause-room
keep_numbers-kept-requires-clause-room c =
    (subst (λ (i : Index). HasRoom i c.args.zones.now.slots) (sym c.self.view_is) c.requires.room).numbers

pub plan_valves-requires-clause-valves : goal.plan_valves-requires-clause-valves
plan_valves-requires-clause-valves c =
    rw c.deref-9.ensures.value
    (subst (λ (n : ℕ). HaveValves n c.keep_numbers-kept.new.numbers.items) (ap length c.as_slice-list.ensures.checks) c.keep_numbers-kept.ensures.valves)

pub list_seen-requires-clause-room : goal.list_seen-requires-clause-room
list_seen-requires-clause-room c =
    let zones = c.args.zones.now.zones in
    let checks = c.args.checks.now.checks in
    let list = c.as_slice-list.ensures.checks in
    let sound = c.as_slice-list.ensures.sound in
    let room = subst (λ (i : Index). HasRoom i c.args.zones.now.slots) (sym c.self.view_is) c.requires.room in
    let few = sound.few in
    let long = ap length list in
    let same = ap (λ v. vec_capacity v) c.swap-2.ensures.x_after in
    let cleared = c.clear-2.ensures.capacity in
    let most = room.seen_before in
    omega arith

pub list_seen-requires-clause-as_many : goal.list_seen-requires-clause-as_many
list_seen-requires-clause-as_many c =
    ap length (c.deref-3.ensures.value ∙ ap (λ v. v.items) c.swap-2.ensures.y_after)
    ∙ c.self.invariant.as_many
    ∙ sym (ap length (c.deref-2.ensures.value ∙ ap (λ v. v.items) c.swap.ensures.y_after))

pub list_seen-requires-clause-bounded : goal.list_seen-requires-clause-bounded
list_seen-requires-clause-bounded c place id check at =
    of_all (λ (held : ℕ × Check). IsBounded held.1) c.args.checks.now.checks.list place (id, check) c.as_slice-list.ensures.sound.bounded
    (rw c.as_slice-list.ensures.checks at at)

pub list_kin-requires-clause-few : goal.list_kin-requires-clause-few
list_kin-requires-clause-few c =
    let few = c.as_slice-list.ensures.sound.few in
    let long = ap length c.as_slice-list.ensures.checks in
    omega arith

pub list_kin-requires-clause-bounded : goal.list_kin-requires-clause-bounded
list_kin-requires-clause-bounded c place id check at =
    of_all (λ (held : ℕ × Check). IsBounded held.1) c.args.checks.now.checks.list place (id, check) c.as_slice-list.ensures.sound.bounded
    (rw c.as_slice-list.ensures.checks at at)

pub list_kin-requires-clause-room : goal.list_kin-requires-clause-room
list_kin-requires-clause-room c =
    (subst (λ (i : Index). HasRoom i c.args.zones.now.slots) (sym c.self.view_is) c.requires.room).kin

pub seat_anew-requires-clause-given : goal.seat_anew-requires-clause-given
seat_anew-requires-clause-given c = rw (c.deref-4.ensures.value, c.deref-5.ensures.value) c.self.invariant.given

pub seat_anew-requires-clause-room : goal.seat_anew-requires-clause-room
seat_anew-requires-clause-room c =
    (subst (λ (i : Index). HasRoom i c.args.zones.now.slots) (sym c.self.view_is) c.requires.room).seats

pub seat_anew-requires-clause-apart : goal.seat_anew-requires-clause-apart
seat_anew-requires-clause-apart c =
    subst StandApart (sym (c.deref-6.ensures.value ∙ c.list_ids.ensures.ids ∙ ap ids_of c.as_slice-list.ensures.checks))
    (ids_apart c.args.checks.now.checks.list c.as_slice-list.ensures.sound.rising)

pub seat_anew-requires-clause-valves : goal.seat_anew-requires-clause-valves
seat_anew-requires-clause-valves c =
    let list = c.as_slice-list.result.now in
    let many = ap length (c.deref-6.ensures.value ∙ c.list_ids.ensures.ids) ∙ ids_long list in
    rw c.deref-7.ensures.value
    (subst (λ (n : ℕ). HaveValves n c.keep_numbers-kept.new.numbers.items) (sym many) c.keep_numbers-kept.ensures.valves)

pub seat_anew-requires-clause-least : goal.seat_anew-requires-clause-least
seat_anew-requires-clause-least c place id at =
    let checks = c.args.checks.now.checks in
    let ids = c.deref-6.ensures.value ∙ c.list_ids.ensures.ids ∙ ap ids_of c.as_slice-list.ensures.checks in
    let held = held_there checks.list place id (subst (λ (l : List ℕ). slice_get l place ≡ Some id) ids at) in
    (of_all (λ (h : ℕ × Check). (1 ≤ h.0) × (h.0 < checks.next)) checks.list place (id, held.0) c.as_slice-list.ensures.sound.ids held.1).0

pub seat_anew-requires-clause-there : goal.seat_anew-requires-clause-there
seat_anew-requires-clause-there c set named id names is =
    let ids = c.deref-6.ensures.value ∙ c.list_ids.ensures.ids ∙ ap ids_of c.as_slice-list.ensures.checks in
    let k = checks_there c.args.zones.now.zones c.args.checks.now.checks c.requires.sound set named id names is in
    (k.0, ap (λ (l : List ℕ). slice_get l k.0) ids ∙ k.1)

pub plan_valves-requires-clause-room : goal.plan_valves-requires-clause-room
plan_valves-requires-clause-room c =
    let room = subst (λ (i : Index). HasRoom i c.args.zones.now.slots) (sym c.self.view_is) c.requires.room in
    let swapped = ap (λ v. vec_capacity v) c.swap-3.ensures.x_after in
    let swapped_too = ap (λ v. vec_capacity v) c.swap-3.ensures.y_after in
    let refs = c.clear-3.ensures.capacity in
    let valves = c.clear-4.ensures.room in
    let links = c.clear-4.ensures.links_room in
    let refs_room = room.refs in
    let members_room = room.members in
    let triggers = room.triggers in
    let most = room.links in
    record {
      few = room.few;
      refs_room = omega arith;
      known_room = omega arith;
      valves = omega arith;
      links = omega arith;
    }

pub lay_out-requires-clause-room : goal.lay_out-requires-clause-room
lay_out-requires-clause-room c =
    let room = subst (λ (i : Index). HasRoom i c.args.zones.now.slots) (sym c.self.view_is) c.requires.room in
    room_for_fewer _ _ _ _ _ room.valves c.plan_valves.ensures.few_valves c.plan_valves.ensures.few_links

pub invariant_of-self : goal.invariant_of-self
invariant_of-self c =
    let zones = c.args.zones.now.zones in
    let checks = c.args.checks.now.checks in
    let list = c.as_slice-list.ensures.checks in
    let sound = c.as_slice-list.ensures.sound in
    let ids = c.list_ids.ensures.ids ∙ ap ids_of list in
    let kin = c.list_kin.ensures.kin ∙ ap kin_of list in
    let many = c.list_seen.ensures.size ∙ ap length list ∙ sym (ids_long checks.list) ∙ sym (ap length ids) in
    let valved = subst (λ (n : ℕ). HaveValves n c.keep_numbers-kept.new.numbers.items) (ap length list) c.keep_numbers-kept.ensures.valves in
    whole zones checks c.plan_valves.new.refs.items c.plan_valves.new.known.items c.plan_valves.new.seats.items c.plan_valves.new.blueprint c.lay_out.new.self
    c.list_ids.new.ids.items c.keep_numbers-kept.new.numbers.items c.list_seen.new.into.items c.list_kin.new.kin.items _ sound ids kin valved many
    (rw c.deref-9.ensures.value at c.plan_valves.ensures.built) c.plan_valves.ensures.given c.lay_out.ensures.fits c.lay_out.ensures.idle
    (rw list at c.list_seen.ensures.kinds)

pub returns-clause-stands : goal.returns-clause-stands
returns-clause-stands c before old reports is follows moves =
    let zones = c.args.zones.now.zones in
    let checks = c.args.checks.now.checks in
    let list = c.as_slice-list.ensures.checks in
    let sound = c.as_slice-list.ensures.sound in
    let was = subst (StandsFor before old reports) (sym c.self.view_is) is in
    let ids = c.list_ids.ensures.ids ∙ ap ids_of list in
    let kin = c.list_kin.ensures.kin ∙ ap kin_of list in
    let many = c.list_seen.ensures.size ∙ ap length list ∙ sym (ids_long checks.list) ∙ sym (ap length ids) in
    let numbers = c.keep_numbers-kept.new.numbers.items in
    let valved = subst (λ (n : ℕ). HaveValves n numbers) (ap length list) c.keep_numbers-kept.ensures.valves in
    let its = knows_its before old reports _ was in
    let ids_before = sym (c.deref-2.ensures.value ∙ ap (λ v. v.items) c.swap.ensures.y_after) in
    let seen_before = sym (c.deref-3.ensures.value ∙ ap (λ v. v.items) c.swap-2.ensures.y_after) in
    let knows = subst (λ l. Knows old reports l c.deref-3.result.now) ids_before (subst (Knows old reports c.self.inside.ids.items) seen_before its) in
    let each = each_follows old checks sound follows in
    let refs_before = sym (ap (λ v. v.items) c.swap-3.ensures.y_after) in
    let all = c.asks_all-all.result in
    let built = rw c.deref-9.ensures.value at c.plan_valves.ensures.built in
    let seated = c.seat_anew.new.seats.items in
    let anew = anew_for zones checks.list c.deref-6.result.now c.deref-7.result.now numbers all c.deref-4.result.now c.self.inside.refs.items c.args.gone.now c.args.came.now
    c.self.inside.seats.items seated (c.deref-6.ensures.value ∙ ids) c.deref-7.ensures.value c.deref-4.ensures.value c.seat_anew.ensures.anew in
    let first_ids = c.deref.ensures.value ∙ ap (λ v. v.items) c.swap.ensures.y_after in
    let kept : all ≡ false → HaveTheirValves c.self.inside.ids.items c.self.inside.numbers.items (ids_of checks.list) numbers =
    λ off. kept_for c.deref.result.now c.self.inside.ids.items c.self.inside.numbers.items c.as_slice-list.result.now checks.list numbers first_ids list
    (c.keep_numbers-kept.ensures.kept (c.asks_all-all.ensures.kept off)) in
    let listed = c.plan_valves.ensures.all (subst (λ (l : List SetRef). AreAsked zones all l c.args.came.now) refs_before
    (asked before zones old checks reports _ was c.requires.sound c.args.gone.now c.args.came.now moves numbers seated all kept anew)) in
    let tells_all = tells before zones old checks reports _ was c.requires.sound c.args.gone.now c.args.came.now moves numbers seated all kept anew in
    let taken_too = taken before zones old checks reports _ was c.requires.sound c.args.gone.now c.args.came.now moves numbers seated all kept anew in
    let are = subst (λ l. AreSeen reports l c.list_seen.new.into.items) list
    (c.list_seen.ensures.seen old reports knows (subst (EachIsLater old) (sym list) each)) in
    stands zones checks c.plan_valves.new.refs.items c.plan_valves.new.known.items c.plan_valves.new.seats.items c.plan_valves.new.blueprint c.lay_out.new.self
    c.list_ids.new.ids.items numbers c.list_seen.new.into.items c.list_kin.new.kin.items _ sound ids kin valved many
    built c.plan_valves.ensures.given c.lay_out.ensures.fits c.lay_out.ensures.idle
    reports c.well_formed-2.ensures c.slots_apart.ensures c.requires.sound
    (still_reports old.next checks.next reports follows.next knows.its_reports) listed
    (tell_all zones checks.list numbers c.plan_valves.new.refs.items seated c.plan_valves.new.seats.items _ _ c.slots_apart.ensures built c.plan_valves.ensures.rest
    (ids_of checks.list) tells_all)
    (taken_all zones checks.list numbers c.plan_valves.new.refs.items seated c.plan_valves.new.seats.items _ _ c.slots_apart.ensures built c.plan_valves.ensures.rest taken_too)
    are
    (rw c.deref-9.ensures.value at c.plan_valves.ensures.checks reports (subst (AreSeen reports checks.list) (sym c.deref-10.ensures.value) are))
    c.plan_valves.ensures.ends c.lay_out.ensures.meet

pub returns-clause-first : goal.returns-clause-first
returns-clause-first c none whole_is =
    let zones = c.args.zones.now.zones in
    let checks = c.args.checks.now.checks in
    let list = c.as_slice-list.ensures.checks in
    let sound = c.as_slice-list.ensures.sound in
    let ids = c.list_ids.ensures.ids ∙ ap ids_of list in
    let kin = c.list_kin.ensures.kin ∙ ap kin_of list in
    let many = c.list_seen.ensures.size ∙ ap length list ∙ sym (ids_long checks.list) ∙ sym (ap length ids) in
    let numbers = c.keep_numbers-kept.new.numbers.items in
    let valved = subst (λ (n : ℕ). HaveValves n numbers) (ap length list) c.keep_numbers-kept.ensures.valves in
    let ids_before = c.deref-2.ensures.value ∙ ap (λ v. v.items) c.swap.ensures.y_after ∙ ap (λ (i : Index). i.ids) c.self.view_is ∙ none in
    let each = each_follows no_checks checks sound (follows_nothing checks sound) in
    let knows = knows_nothing c.deref-2.result.now c.deref-3.result.now ids_before in
    let on = c.asks_all-all.ensures.wanted whole_is in
    let all = c.asks_all-all.result in
    let built = rw c.deref-9.ensures.value at c.plan_valves.ensures.built in
    let seated = c.seat_anew.new.seats.items in
    let anew = anew_for zones checks.list c.deref-6.result.now c.deref-7.result.now numbers all c.deref-4.result.now c.self.inside.refs.items c.args.gone.now c.args.came.now
    c.self.inside.seats.items seated (c.deref-6.ensures.value ∙ ids) c.deref-7.ensures.value c.deref-4.ensures.value c.seat_anew.ensures.anew in
    let are = subst (λ l. AreSeen [] l c.list_seen.new.into.items) list
    (c.list_seen.ensures.seen no_checks [] knows (subst (EachIsLater no_checks) (sym list) each)) in
    stands zones checks c.plan_valves.new.refs.items c.plan_valves.new.known.items c.plan_valves.new.seats.items c.plan_valves.new.blueprint c.lay_out.new.self
    c.list_ids.new.ids.items numbers c.list_seen.new.into.items c.list_kin.new.kin.items _ sound ids kin valved many
    built c.plan_valves.ensures.given c.lay_out.ensures.fits c.lay_out.ensures.idle
    [] c.well_formed-2.ensures c.slots_apart.ensures c.requires.sound tt (c.plan_valves.ensures.all (λ zone p here watched. inl on))
    (tell_all zones checks.list numbers c.plan_valves.new.refs.items seated c.plan_valves.new.seats.items _ _ c.slots_apart.ensures built c.plan_valves.ensures.rest
    (ids_of checks.list) (anew.all on))
    (taken_all zones checks.list numbers c.plan_valves.new.refs.items seated c.plan_valves.new.seats.items _ _ c.slots_apart.ensures built c.plan_valves.ensures.rest
    (λ slot some. taken_whole zones (ids_of checks.list) numbers all c.self.inside.refs.items c.args.gone.now c.args.came.now c.self.inside.seats.items seated anew on slot some))
    are
    (rw c.deref-9.ensures.value at c.plan_valves.ensures.checks [] (subst (AreSeen [] checks.list) (sym c.deref-10.ensures.value) are))
    c.plan_valves.ensures.ends c.lay_out.ensures.meet

pub returns-clause-laid : goal.returns-clause-laid
returns-clause-laid c =
    laid_anew c.args.zones.now.zones _ c.args.checks.now.checks.list c.keep_numbers-kept.new.numbers.items _ _
    (rw c.deref-9.ensures.value at c.plan_valves.ensures.built) c.plan_valves.ensures.given c.plan_valves.ensures.noted
    c.lay_out.ensures.size c.lay_out.ensures.laid_links c.plan_valves.ensures.links_by_refs
