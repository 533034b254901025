use Rattle.std.proofs.Common.{ap, sym, refl, ◌∙◌, length, length-set, arith}
use mathlib.Core.Path.{subst}
use Rattle.std.proofs.lemmas.Bool.{false≢true}
use Rattle.policy_select.proofs.Members.{one_named}
use Rattle.policy_select.specs.Looking.{Watches}
use Rattle.health_planning.specs.Wired.{is_watched, own_part}
use Rattle.health_planning.proofs.ListedOnce.{last_at, listed_already, listed_more, seat_is, still_at}
use Rattle.health_planning.proofs.Roomy.{one_more, room_listed}
use Rattle.health_planning.proofs.listing.list_one.Goals as goal

pub returns-then-not-is_watched-clause-here : goal.returns-then-not-is_watched-clause-here
returns-then-not-is_watched-clause-here c named names watched =
    let w = subst (Watches c.args.zones.now.zones c.args.set) c.in-Some.is c.watch.ensures in
    let same = one_named c.args.zones.now.zones c.args.set w.0 named c.well_formed-2.ensures w.1 names in
    absurd (false≢true (sym c.if-not-is_watched.true ∙ c.is_watched.ensures w.0 w.2 ∙ ap is_watched same ∙ watched))

pub returns-then-own-ne0-clause-here : goal.returns-then-own-ne0-clause-here
returns-then-own-ne0-clause-here c named names watched =
    listed_already c.args.zones.now.zones c.requires.listed.0 c.requires.listed.1.0 c.args.refs.now.items c.args.seats.now.items c.args.blueprint.now.triggers c.args.set named
    c.requires.listed.1.1 c.slots_apart.ensures names
    (λ e. c.if-own-ne0.true (c.own_valve-own.ensures ∙ ap own_part (seat_is c.args.seats.now.items c.args.set.slot c.index.result.now c.requires.slot c.index.ensures) ∙ e))

pub returns-clause-listed : goal.returns-clause-listed
returns-clause-listed c first before are =
    let w = subst (Watches c.args.zones.now.zones c.args.set) c.in-Some.is c.watch.ensures in
    let empty = sym (c.own_valve-own.ensures ∙ ap own_part (seat_is c.args.seats.now.items c.args.set.slot c.index.result.now c.requires.slot c.index.ensures)) ∙ c.if-own-ne0.false in
    let watched = sym (c.is_watched.ensures w.0 w.2) ∙ c.if-not-is_watched.false in
    let trigger = c.trigger_of.ensures w.0 w.2 in
    let check = c.only_check.ensures w.0 w.2 in
    rw (c.push_reserved.ensures.items, c.push.ensures.triggers, trigger, check)
    (listed_more c.args.zones.now.zones first before c.args.refs.now.items c.args.seats.now.items c.args.blueprint.now.triggers c.args.set w.0 c.len-valve.result
    are w.1 watched c.requires.slot empty c.len-valve.ensures)

pub returns-clause-goes_on : goal.returns-clause-goes_on
returns-clause-goes_on c k ref at = rw c.push_reserved.ensures.items (still_at c.args.refs.now.items c.args.set ref k at)

pub returns-clause-here : goal.returns-clause-here
returns-clause-here c named names watched = (
  length c.args.refs.now.items,
  rw c.push_reserved.ensures.items
      (last_at c.args.refs.now.items c.args.set (length c.args.refs.now.items) refl),
)

pub returns-clause-triggers : goal.returns-clause-triggers
returns-clause-triggers c n trigger at = rw c.push.ensures.triggers (still_at c.args.blueprint.now.triggers c.trigger_of.result trigger n at)

pub overflow_cast-valve : goal.overflow_cast-valve
overflow_cast-valve c =
    let w = subst (Watches c.args.zones.now.zones c.args.set) c.in-Some.is c.watch.ensures in
    let empty = sym (c.own_valve-own.ensures ∙ ap own_part (seat_is c.args.seats.now.items c.args.set.slot c.index.result.now c.requires.slot c.index.ensures)) ∙ c.if-own-ne0.false in
    let watched = sym (c.is_watched.ensures w.0 w.2) ∙ c.if-not-is_watched.false in
    let more = one_more c.args.zones.now.zones c.requires.listed.0 c.requires.listed.1.0 c.args.refs.now.items c.args.seats.now.items c.args.blueprint.now.triggers c.args.set w.0
    c.requires.listed.1.1 w.1 watched c.requires.slot empty in
    let few = c.requires.room.few in
    let valve = c.len-valve.ensures in
    omega arith

pub push-requires : goal.push-requires
push-requires c =
    let w = subst (Watches c.args.zones.now.zones c.args.set) c.in-Some.is c.watch.ensures in
    let empty = sym (c.own_valve-own.ensures ∙ ap own_part (seat_is c.args.seats.now.items c.args.set.slot c.index.result.now c.requires.slot c.index.ensures)) ∙ c.if-own-ne0.false in
    let watched = sym (c.is_watched.ensures w.0 w.2) ∙ c.if-not-is_watched.false in
    let more = one_more c.args.zones.now.zones c.requires.listed.0 c.requires.listed.1.0 c.args.refs.now.items c.args.seats.now.items c.args.blueprint.now.triggers c.args.set w.0
    c.requires.listed.1.1 w.1 watched c.requires.slot empty in
    let room = c.requires.room.valves in
    omega arith

pub push_reserved-requires : goal.push_reserved-requires
push_reserved-requires c =
    let w = subst (Watches c.args.zones.now.zones c.args.set) c.in-Some.is c.watch.ensures in
    let empty = sym (c.own_valve-own.ensures ∙ ap own_part (seat_is c.args.seats.now.items c.args.set.slot c.index.result.now c.requires.slot c.index.ensures)) ∙ c.if-own-ne0.false in
    let watched = sym (c.is_watched.ensures w.0 w.2) ∙ c.if-not-is_watched.false in
    let more = one_more c.args.zones.now.zones c.requires.listed.0 c.requires.listed.1.0 c.args.refs.now.items c.args.seats.now.items c.args.blueprint.now.triggers c.args.set w.0
    c.requires.listed.1.1 w.1 watched c.requires.slot empty in
    let room = c.requires.room.refs_room in
    let len = c.args.refs.now.ok.0 in
    omega arith

pub overflow_add-valve : goal.overflow_add-valve
overflow_add-valve c =
    let w = subst (Watches c.args.zones.now.zones c.args.set) c.in-Some.is c.watch.ensures in
    let empty = sym (c.own_valve-own.ensures ∙ ap own_part (seat_is c.args.seats.now.items c.args.set.slot c.index.result.now c.requires.slot c.index.ensures)) ∙ c.if-own-ne0.false in
    let watched = sym (c.is_watched.ensures w.0 w.2) ∙ c.if-not-is_watched.false in
    let more = one_more c.args.zones.now.zones c.requires.listed.0 c.requires.listed.1.0 c.args.refs.now.items c.args.seats.now.items c.args.blueprint.now.triggers c.args.set w.0
    c.requires.listed.1.1 w.1 watched c.requires.slot empty in
    let few = c.requires.room.few in
    let valve = c.len-valve.ensures in
    omega arith

pub returns-clause-room : goal.returns-clause-room
returns-clause-room c =
    room_listed c.args.blueprint.now c.push.new.self c.args.refs.now c.push_reserved.new.self c.args.seats.now.items _ c.args.set c.trigger_of.result
    c.requires.room (length-set c.args.seats.now.items c.args.set.slot _) c.push.ensures.triggers c.push.ensures.room c.push_reserved.ensures.items
    c.push_reserved.ensures.capacity
