use Rattle.std.proofs.Common.{◌≡◌, ◌≤◌, ◌<◌, ℕ, List, length, arith, ap, sym, ◌∙◌, Some, refl}
use Rattle.std.specs.Prelude.{slice_get}
use mathlib.Core.Path.{subst}
use Rattle.check_model.specs.declared.checks.Check.{Check}
use Rattle.health_index.proofs.Beside.{beside_for, index_seated, seats_same}
use Rattle.health_index.proofs.Kept.{ids_same}
use Rattle.health_index.proofs.Reseated.{beside_left, whole_beside}
use Rattle.health_index.specs.Following.{AreSame}
use Rattle.health_index.specs.Index.{Index, StandsFor}
use Rattle.health_index.specs.Leaving.{SparesValves}
use Rattle.health_index.specs.Room.{HasRoom}
use Rattle.health_planning.proofs.Built.{checks_there}
use Rattle.health_planning.proofs.Places.{held_there, of_all}
use Rattle.health_planning.specs.Wired.{HaveValves, StandApart, ids_of}
use Rattle.health_planning.specs.declared.seats.Seat.{Seat}
use Rattle.health_valves.specs.Valves.{size_of}
use Rattle.health_index.proofs.index.HealthIndex.reseat.Goals as goal

pub returns-then-not-spares_valves-clause-ready : goal.returns-then-not-spares_valves-clause-ready
returns-then-not-spares_valves-clause-ready c spares same many =
    c.if-not-spares_valves.ensures.1
    (subst (λ (l : List Seat). SparesValves c.args.zones.now.zones l c.args.delta.now)
    (sym (c.deref.ensures.value ∙ ap (λ (i : Index). i.seats) c.self.view_is)) spares)

pub returns-then-not-spares_valves-clause-rest : goal.returns-then-not-spares_valves-clause-rest
returns-then-not-spares_valves-clause-rest c = seats_same _ _ c.self.view_is

pub returns-then-not-has_ids-clause-ready : goal.returns-then-not-has_ids-clause-ready
returns-then-not-has_ids-clause-ready c spares same many =
    c.if-not-has_ids.ensures.1
    (subst (λ (l : List ℕ). AreSame l c.as_slice-list.result.now) (sym (c.deref-2.ensures.value ∙ ap (λ (i : Index). i.ids) c.self.view_is))
    (subst (λ (l : List (ℕ × Check)). AreSame c.args.self.now.ids l) (sym c.as_slice-list.ensures.checks) same))

pub returns-then-not-has_ids-clause-rest : goal.returns-then-not-has_ids-clause-rest
returns-then-not-has_ids-clause-rest c = seats_same _ _ c.self.view_is

pub returns-then-len-lt-MOST_CHECKS-clause-ready : goal.returns-then-len-lt-MOST_CHECKS-clause-ready
returns-then-len-lt-MOST_CHECKS-clause-ready c spares same many =
    let few = c.if-len-lt-MOST_CHECKS.true in
    let valves = c.len.ensures in
    let size = ap (λ (i : Index). size_of i.valves) c.self.view_is in
    absurd (omega arith)

pub returns-then-len-lt-MOST_CHECKS-clause-rest : goal.returns-then-len-lt-MOST_CHECKS-clause-rest
returns-then-len-lt-MOST_CHECKS-clause-rest c = seats_same _ _ c.self.view_is

pub seat_beside-requires-clause-room : goal.seat_beside-requires-clause-room
seat_beside-requires-clause-room c =
    (subst (λ (i : Index). HasRoom i c.args.zones.now.slots) (sym c.self.view_is) c.requires.room).seats

pub seat_beside-requires-clause-apart : goal.seat_beside-requires-clause-apart
seat_beside-requires-clause-apart c = subst StandApart (sym c.deref-3.ensures.value) c.self.invariant.apart

pub seat_beside-requires-clause-valves : goal.seat_beside-requires-clause-valves
seat_beside-requires-clause-valves c =
    subst (λ (l : List ℕ). HaveValves (length l) c.deref-4.result.now) (sym c.deref-3.ensures.value)
    (subst (λ (l : List ℕ). HaveValves (length c.self.inside.ids.items) l) (sym c.deref-4.ensures.value) c.self.invariant.numbers)

pub seat_beside-requires-clause-least : goal.seat_beside-requires-clause-least
seat_beside-requires-clause-least c place id at =
    let checks = c.args.checks.now.checks in
    let same = c.if-not-has_ids.ensures.0 refl in
    let ids = c.deref-3.ensures.value ∙ sym c.deref-2.ensures.value ∙ ids_same c.deref-2.result.now c.as_slice-list.result.now same
    ∙ ap ids_of c.as_slice-list.ensures.checks in
    let held = held_there checks.list place id (subst (λ (l : List ℕ). slice_get l place ≡ Some id) ids at) in
    (of_all (λ (h : ℕ × Check). (1 ≤ h.0) × (h.0 < checks.next)) checks.list place (id, held.0) c.as_slice-list.ensures.sound.ids held.1).0

pub seat_beside-requires-clause-there : goal.seat_beside-requires-clause-there
seat_beside-requires-clause-there c set named id names is =
    let same = c.if-not-has_ids.ensures.0 refl in
    let ids = c.deref-3.ensures.value ∙ sym c.deref-2.ensures.value ∙ ids_same c.deref-2.result.now c.as_slice-list.result.now same
    ∙ ap ids_of c.as_slice-list.ensures.checks in
    let k = checks_there c.args.zones.now.zones c.args.checks.now.checks c.requires.sound set named id names is in
    (k.0, ap (λ (l : List ℕ). slice_get l k.0) ids ∙ k.1)

pub invariant_of-self-2 : goal.invariant_of-self-2
invariant_of-self-2 c =
    let zones = c.args.zones.now.zones in
    let delta = c.args.delta.now in
    let w = c.self.invariant in
    let few = c.if-len-lt-MOST_CHECKS.false in
    let valves = c.len.ensures in
    let size = w.fits.laid.size in
    let spares = subst (λ (l : List Seat). SparesValves zones l delta) c.deref.ensures.value (c.if-not-spares_valves.ensures.0 refl) in
    whole_beside _ w zones delta.removed delta.added c.seat_beside.new.seats.items _ spares.went spares.came (omega arith)
    (beside_for zones c.deref-3.result.now c.self.inside.ids.items c.deref-4.result.now c.self.inside.numbers.items
    c.as_slice.result.now delta.removed c.as_slice-2.result.now delta.added c.self.inside.seats.items c.seat_beside.new.seats.items
    c.deref-3.ensures.value c.deref-4.ensures.value c.as_slice.ensures c.as_slice-2.ensures c.seat_beside.ensures.beside)

pub returns-clause-stands : goal.returns-clause-stands
returns-clause-stands c before old reports stands left done =
    let zones = c.args.zones.now.zones in
    let delta = c.args.delta.now in
    let was = subst (StandsFor before old reports) (sym c.self.view_is) stands in
    let spares = subst (λ (l : List Seat). SparesValves zones l delta) c.deref.ensures.value (c.if-not-spares_valves.ensures.0 refl) in
    beside_left before zones old c.args.checks.now.checks reports _ delta was c.well_formed-2.ensures c.slots_apart.ensures c.requires.sound left
    c.seat_beside.new.seats.items _ spares
    (beside_for zones c.deref-3.result.now c.self.inside.ids.items c.deref-4.result.now c.self.inside.numbers.items
    c.as_slice.result.now delta.removed c.as_slice-2.result.now delta.added c.self.inside.seats.items c.seat_beside.new.seats.items
    c.deref-3.ensures.value c.deref-4.ensures.value c.as_slice.ensures c.as_slice-2.ensures c.seat_beside.ensures.beside)

pub returns-clause-spares : goal.returns-clause-spares
returns-clause-spares c done =
    subst (λ (l : List Seat). SparesValves c.args.zones.now.zones l c.args.delta.now)
    (c.deref.ensures.value ∙ ap (λ (i : Index). i.seats) c.self.view_is) (c.if-not-spares_valves.ensures.0 refl)

pub returns-clause-rest : goal.returns-clause-rest
returns-clause-rest c =
    let room = c.seat_beside.ensures.room in
    index_seated _ c.args.self.now c.seat_beside.new.seats.items _ c.self.view_is (cc)
