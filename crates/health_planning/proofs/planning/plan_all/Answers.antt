use Rattle.std.proofs.Common.{◌≡◌, ◌++◌, ℕ, List, length, length-append, arith, ap, sym, ◌∙◌, inl, inr}
use mathlib.Core.Path.{subst}
use Rattle.health_valves.specs.declared.blueprint.Feeding.{Feeding}
use Rattle.health_valves.specs.declared.blueprint.Trigger.{Trigger}
use Rattle.policy_select.specs.SetRefRecord.{SetRef}
use Rattle.health_planning.specs.Building.{AreAsked, HaveOwnValves, IsSmallAt, check_links, spare_trigger}
use Rattle.health_planning.specs.Rooms.{children_among}
use Rattle.health_planning.specs.Wired.{check_seat, only_check}
use Rattle.health_planning.specs.declared.seats.Seat.{Seat}
use Rattle.policy_select.proofs.Members.{one_named}
use Rattle.health_planning.proofs.Built.{checks_there, children_placed, is_built, links_early, listed_below, none_listed, small_at, spares_small, targets_there}
use Rattle.health_planning.proofs.Few.{check_links_long, children_few, few_grouped, few_listed}
use Rattle.health_planning.proofs.Given.{all_given}
use Rattle.health_planning.proofs.Grouped.{still_within}
use Rattle.health_planning.proofs.Numbers.{ids_valves}
use Rattle.health_planning.proofs.Places.{ids_apart}
use Rattle.health_planning.proofs.Roomy.{joined_few, listed_apart}
use Rattle.health_planning.proofs.Wiring.{ids_long}
use Rattle.health_planning.proofs.planning.plan_all.Goals as goal

pub join_checks-requires-clause-there : goal.join_checks-requires-clause-there
join_checks-requires-clause-there c =
    rw (c.as_slice-list.ensures.checks, c.requires.ids)
    (children_placed c.args.checks.now.checks c.as_slice-list.ensures.sound)

pub join_checks-requires-clause-apart : goal.join_checks-requires-clause-apart
join_checks-requires-clause-apart c =
    rw c.requires.ids (ids_apart c.args.checks.now.checks.list c.as_slice-list.ensures.sound.rising)

pub join_sets-requires-clause-apart : goal.join_sets-requires-clause-apart
join_sets-requires-clause-apart c =
    rw c.requires.ids (ids_apart c.args.checks.now.checks.list c.as_slice-list.ensures.sound.rising)

pub list_asked-requires-clause-listed : goal.list_asked-requires-clause-listed
list_asked-requires-clause-listed c =
    let size = c.put_checks.ensures.size in
    rw (c.requires.no_refs, c.join_checks.ensures.triggers) (
      200,
      (
        c.args.seats.now.items,
        none_listed c.args.zones.now.zones c.args.zones.now.slots c.args.seats.now.items c.requires.no_seats 200
            c.put_checks.new.blueprint.triggers (omega arith) size,
      ),
    )

pub group_all-requires-clause-below : goal.group_all-requires-clause-below
group_all-requires-clause-below c =
    let list = c.args.checks.now.checks.list in
    let size = c.put_checks.ensures.size in
    let start : HaveOwnValves c.args.zones.now.zones 200 c.args.seats.now.items c.args.refs.now.items c.args.seats.now.items c.join_checks.new.blueprint.triggers =
    rw (c.requires.no_refs, c.join_checks.ensures.triggers)
    (none_listed c.args.zones.now.zones c.args.zones.now.slots c.args.seats.now.items c.requires.no_seats 200 c.put_checks.new.blueprint.triggers (omega arith) size) in
    listed_below c.args.zones.now.zones 200 c.args.seats.now.items c.list_targets.new.refs.items c.list_targets.new.seats.items c.list_targets.new.blueprint.triggers
    (c.list_targets.ensures.listed 200 c.args.seats.now.items (c.list_asked.ensures.listed 200 c.args.seats.now.items start))

pub group_all-requires-clause-none : goal.group_all-requires-clause-none
group_all-requires-clause-none c =
    let list = c.args.checks.now.checks.list in
    let size = c.put_checks.ensures.size in
    let start : HaveOwnValves c.args.zones.now.zones 200 c.args.seats.now.items c.args.refs.now.items c.args.seats.now.items c.join_checks.new.blueprint.triggers =
    rw (c.requires.no_refs, c.join_checks.ensures.triggers)
    (none_listed c.args.zones.now.zones c.args.zones.now.slots c.args.seats.now.items c.requires.no_seats 200 c.put_checks.new.blueprint.triggers (omega arith) size) in
    (c.list_targets.ensures.listed 200 c.args.seats.now.items (c.list_asked.ensures.listed 200 c.args.seats.now.items start)).no_group

pub group_all-requires-clause-within : goal.group_all-requires-clause-within
group_all-requires-clause-within c =
    let checks = c.args.checks.now.checks in
    let list = checks.list in
    let size = c.put_checks.ensures.size in
    let start : HaveOwnValves c.args.zones.now.zones 200 c.args.seats.now.items c.args.refs.now.items c.args.seats.now.items c.join_checks.new.blueprint.triggers =
    rw (c.requires.no_refs, c.join_checks.ensures.triggers)
    (none_listed c.args.zones.now.zones c.args.zones.now.slots c.args.seats.now.items c.requires.no_seats 200 c.put_checks.new.blueprint.triggers (omega arith) size) in
    let listed = (c.list_targets.ensures.listed 200 c.args.seats.now.items (c.list_asked.ensures.listed 200 c.args.seats.now.items start)).size in
    let few = c.as_slice-list.ensures.sound.few in
    let links : c.list_targets.new.blueprint.links ≡ check_links c.args.ids.now c.args.numbers.now 0 c.as_slice-list.result.now =
    c.list_targets.ensures.links ∙ c.list_asked.ensures.links ∙ c.join_checks.ensures.links
    ∙ ap (λ (l : List Feeding). l ++ check_links c.args.ids.now c.args.numbers.now 0 c.as_slice-list.result.now) (c.put_checks.ensures.links ∙ c.add_spares.ensures.links ∙ c.requires.no_links) in
    rw (links, c.requires.ids, c.as_slice-list.ensures.checks)
    (still_within (check_links _ c.args.numbers.now 0 list) 200 (length c.list_targets.new.blueprint.triggers) (omega arith)
    (links_early list c.args.numbers.now c.requires.valves (children_placed checks c.as_slice-list.ensures.sound)))

pub group_all-requires-clause-targets : goal.group_all-requires-clause-targets
group_all-requires-clause-targets c = targets_there c.args.zones.now.zones c.args.checks.now.checks c.requires.sound

pub join_sets-requires-clause-targets : goal.join_sets-requires-clause-targets
join_sets-requires-clause-targets c = targets_there c.args.zones.now.zones c.args.checks.now.checks c.requires.sound

pub group_all-requires-clause-told : goal.group_all-requires-clause-told
group_all-requires-clause-told c k set named at names =
    let zones = c.args.zones.now.zones in
    let list = c.args.checks.now.checks.list in
    let size = c.put_checks.ensures.size in
    let start : HaveOwnValves c.args.zones.now.zones 200 c.args.seats.now.items c.args.refs.now.items c.args.seats.now.items c.join_checks.new.blueprint.triggers =
    rw (c.requires.no_refs, c.join_checks.ensures.triggers)
    (none_listed c.args.zones.now.zones c.args.zones.now.slots c.args.seats.now.items c.requires.no_seats 200 c.put_checks.new.blueprint.triggers (omega arith) size) in
    let g = (c.list_targets.ensures.listed 200 c.args.seats.now.items (c.list_asked.ensures.listed 200 c.args.seats.now.items start)).valves k set (rw c.deref-2.ensures.value at at) in
    g.told ∙ ap only_check (one_named zones set g.named named c.well_formed-2.ensures g.names names)

pub join_sets-requires-clause-told : goal.join_sets-requires-clause-told
join_sets-requires-clause-told c k set named at names =
    let zones = c.args.zones.now.zones in
    let list = c.args.checks.now.checks.list in
    let size = c.put_checks.ensures.size in
    let start : HaveOwnValves c.args.zones.now.zones 200 c.args.seats.now.items c.args.refs.now.items c.args.seats.now.items c.join_checks.new.blueprint.triggers =
    rw (c.requires.no_refs, c.join_checks.ensures.triggers)
    (none_listed c.args.zones.now.zones c.args.zones.now.slots c.args.seats.now.items c.requires.no_seats 200 c.put_checks.new.blueprint.triggers (omega arith) size) in
    let g = (c.list_targets.ensures.listed 200 c.args.seats.now.items (c.list_asked.ensures.listed 200 c.args.seats.now.items start)).valves k set (rw c.deref-3.ensures.value at at) in
    ap (λ (l : List Seat). check_seat l set.slot) c.deref-4.ensures.value
    ∙ c.group_all.ensures.sets.checks set.slot
    ∙ g.told ∙ ap only_check (one_named zones set g.named named c.well_formed-2.ensures g.names names)

pub join_sets-requires-clause-named : goal.join_sets-requires-clause-named
join_sets-requires-clause-named c k set at =
    let list = c.args.checks.now.checks.list in
    let size = c.put_checks.ensures.size in
    let start : HaveOwnValves c.args.zones.now.zones 200 c.args.seats.now.items c.args.refs.now.items c.args.seats.now.items c.join_checks.new.blueprint.triggers =
    rw (c.requires.no_refs, c.join_checks.ensures.triggers)
    (none_listed c.args.zones.now.zones c.args.zones.now.slots c.args.seats.now.items c.requires.no_seats 200 c.put_checks.new.blueprint.triggers (omega arith) size) in
    let g = (c.list_targets.ensures.listed 200 c.args.seats.now.items (c.list_asked.ensures.listed 200 c.args.seats.now.items start)).valves k set (rw c.deref-3.ensures.value at at) in
    (g.named, g.names)

pub join_sets-requires-clause-there : goal.join_sets-requires-clause-there
join_sets-requires-clause-there c = rw c.requires.ids (checks_there c.args.zones.now.zones c.args.checks.now.checks c.requires.sound)

pub returns-clause-built : goal.returns-clause-built
returns-clause-built c =
    let zones = c.args.zones.now.zones in
    let checks = c.args.checks.now.checks in
    let list = checks.list in
    let l = c.list_asked.ensures in
    let g = c.group_all.ensures in
    let j = c.join_sets.ensures in
    let size = c.put_checks.ensures.size in
    let start : HaveOwnValves zones 200 c.args.seats.now.items c.args.refs.now.items c.args.seats.now.items c.join_checks.new.blueprint.triggers =
    rw (c.requires.no_refs, c.join_checks.ensures.triggers)
    (none_listed zones c.args.zones.now.slots c.args.seats.now.items c.requires.no_seats 200 c.put_checks.new.blueprint.triggers (omega arith) size) in
    let links : c.list_targets.new.blueprint.links ≡ check_links c.args.ids.now c.args.numbers.now 0 c.as_slice-list.result.now =
    c.list_targets.ensures.links ∙ l.links ∙ c.join_checks.ensures.links
    ∙ ap (λ (x : List Feeding). x ++ check_links c.args.ids.now c.args.numbers.now 0 c.as_slice-list.result.now) (c.put_checks.ensures.links ∙ c.add_spares.ensures.links ∙ c.requires.no_links) in
    rw j.triggers (is_built zones list c.args.numbers.now c.requires.valves c.list_targets.new.refs.items c.args.seats.now.items c.list_targets.new.seats.items c.group_all.new.seats.items
    c.list_targets.new.blueprint.triggers c.group_all.new.blueprint.triggers c.list_targets.new.blueprint.links c.group_all.new.blueprint.links c.join_sets.new.blueprint.links
    (children_placed checks c.as_slice-list.ensures.sound)
    (links ∙ ap (λ (x : List ℕ). check_links x c.args.numbers.now 0 c.as_slice-list.result.now) c.requires.ids ∙ ap (check_links _ c.args.numbers.now 0) c.as_slice-list.ensures.checks)
    (λ valve is. c.list_targets.ensures.triggers valve spare_trigger (l.triggers valve spare_trigger (rw c.join_checks.ensures.triggers
    (c.put_checks.ensures.spares valve is ∙ c.add_spares.ensures.spares valve is.0))))
    (c.list_targets.ensures.listed 200 c.args.seats.now.items (l.listed 200 c.args.seats.now.items start)) c.list_targets.ensures.members g.grouped.grouped (rw c.deref-2.ensures.value at g.all) g.sets g.triggers g.feeders g.more g.within
    (rw (c.requires.ids, c.deref-3.ensures.value, c.deref-4.ensures.value) at j.joined)
    (rw c.deref-3.ensures.value at j.others)
    (rw (c.deref-3.ensures.value, c.deref-4.ensures.value) at j.within))

pub returns-clause-given : goal.returns-clause-given
returns-clause-given c =
    all_given c.args.zones.now.zones c.args.checks.now.checks.list c.args.numbers.now c.list_targets.new.refs.items c.group_all.new.members.items c.group_all.new.seats.items
    c.join_sets.new.blueprint.triggers c.join_sets.new.blueprint.links (returns-clause-built c) c.group_all.ensures.noted

pub returns-clause-all : goal.returns-clause-all
returns-clause-all c asked zone p here on =
    let l = c.list_asked.ensures.all
    (subst (λ (l : List SetRef). AreAsked c.args.zones.now.zones c.args.whole l c.args.came.now) (sym c.deref.ensures.value) asked) zone p here on in
    (l.0, c.list_targets.ensures.goes_on l.0 _ l.1)

pub returns-clause-rest : goal.returns-clause-rest
returns-clause-rest c slot =
    let size = c.put_checks.ensures.size in
    let start : HaveOwnValves c.args.zones.now.zones 200 c.args.seats.now.items c.args.refs.now.items c.args.seats.now.items c.join_checks.new.blueprint.triggers =
    rw (c.requires.no_refs, c.join_checks.ensures.triggers)
    (none_listed c.args.zones.now.zones c.args.zones.now.slots c.args.seats.now.items c.requires.no_seats 200 c.put_checks.new.blueprint.triggers (omega arith) size) in
    let same = c.group_all.ensures.sets in
    elim ((c.list_targets.ensures.listed 200 c.args.seats.now.items (c.list_asked.ensures.listed 200 c.args.seats.now.items start)).others slot) [
      | inl told ↦ inl told
      | inr on ↦ inr (same.valves slot ∙ on.0, same.checks slot ∙ on.1)
    ]

pub list_targets-requires-clause-listed : goal.list_targets-requires-clause-listed
list_targets-requires-clause-listed c =
    let size = c.put_checks.ensures.size in
    let start : HaveOwnValves c.args.zones.now.zones 200 c.args.seats.now.items c.args.refs.now.items c.args.seats.now.items c.join_checks.new.blueprint.triggers =
    rw (c.requires.no_refs, c.join_checks.ensures.triggers)
    (none_listed c.args.zones.now.zones c.args.zones.now.slots c.args.seats.now.items c.requires.no_seats 200 c.put_checks.new.blueprint.triggers (omega arith) size) in
    (200, (c.args.seats.now.items, c.list_asked.ensures.listed 200 c.args.seats.now.items start))

pub group_all-requires-clause-members_room : goal.group_all-requires-clause-members_room
group_all-requires-clause-members_room c =
    let seats = c.list_asked.ensures.size in
    let more = c.list_targets.ensures.size in
    let long = c.requires.no_seats.size in
    let room = c.requires.room.known_room in
    let cleared = c.clear.ensures.capacity in
    omega arith

pub returns-clause-checks : goal.returns-clause-checks
returns-clause-checks c reports are place valve id check at numbered =
    let list = c.as_slice-list.ensures.checks in
    let first = c.put_checks.ensures.checks reports (rw list are) place valve id check (rw list at) numbered in
    rw c.join_sets.ensures.triggers
    (c.group_all.ensures.triggers valve _ (c.list_targets.ensures.triggers valve _ (c.list_asked.ensures.triggers valve _
    (rw c.join_checks.ensures.triggers first))))

pub returns-clause-small : goal.returns-clause-small
returns-clause-small c valve early =
    let size = c.put_checks.ensures.size in
    subst (λ (l : List Trigger). IsSmallAt l valve) (sym c.join_sets.ensures.triggers)
    (small_at c.put_checks.new.blueprint.triggers c.list_targets.new.blueprint.triggers c.group_all.new.blueprint.triggers valve (omega arith)
    (c.put_checks.ensures.small (spares_small c.add_spares.new.blueprint.triggers c.add_spares.ensures.size c.add_spares.ensures.spares))
    (λ n trigger at. c.list_targets.ensures.triggers n trigger (c.list_asked.ensures.triggers n trigger (rw c.join_checks.ensures.triggers at)))
    c.group_all.ensures.triggers)

pub add_spares-requires-clause-room : goal.add_spares-requires-clause-room
add_spares-requires-clause-room c =
    let valves_room = c.requires.room.valves in
    omega arith

pub put_checks-requires-clause-valves : goal.put_checks-requires-clause-valves
put_checks-requires-clause-valves c = rw c.as_slice-list.ensures.checks c.requires.valves

pub join_checks-requires-clause-as_many : goal.join_checks-requires-clause-as_many
join_checks-requires-clause-as_many c =
    let many = c.requires.valves.as_many in
    let ids = ap length c.requires.ids ∙ ids_long c.args.checks.now.checks.list in
    omega arith

pub join_checks-requires-clause-all : goal.join_checks-requires-clause-all
join_checks-requires-clause-all c =
    let many = c.requires.valves.as_many in
    let list = ap length c.as_slice-list.ensures.checks in
    omega arith

pub join_sets-requires-clause-valves : goal.join_sets-requires-clause-valves
join_sets-requires-clause-valves c =
    rw c.requires.ids (ids_valves c.args.checks.now.checks.list c.args.numbers.now c.requires.valves)

pub join_checks-requires-clause-room : goal.join_checks-requires-clause-room
join_checks-requires-clause-room c =
    let checks = c.args.checks.now.checks in
    let list = checks.list in
    let sound = c.as_slice-list.ensures.sound in
    let few = sound.few in
    let as_list = ap length c.as_slice-list.ensures.checks in
    let room = c.requires.room in
    let few_slots = room.few in
    let valves_room = room.valves in
    let links_room = room.links in
    let no_triggers = ap length c.requires.no_valves in
    let no_links = ap length c.requires.no_links in
    let children = children_few list sound.bounded in
    let same_children = ap children_among c.as_slice-list.ensures.checks in
    let long_seats = c.requires.no_seats.size in
    let no_refs = ap length c.requires.no_refs in
    let added = c.put_checks.ensures.size in
    let added_valves = c.put_checks.ensures.kept.valves in
    let added_links = c.put_checks.ensures.kept.links in
    let added_same = ap length c.put_checks.ensures.links in
    let spared = c.add_spares.ensures.size in
    let spared_valves = c.add_spares.ensures.kept.valves in
    let spared_links = c.add_spares.ensures.kept.links in
    let spared_same = ap length c.add_spares.ensures.links in
    omega arith

pub list_asked-requires-clause-room : goal.list_asked-requires-clause-room
list_asked-requires-clause-room c =
    let checks = c.args.checks.now.checks in
    let list = checks.list in
    let sound = c.as_slice-list.ensures.sound in
    let few = sound.few in
    let as_list = ap length c.as_slice-list.ensures.checks in
    let room = c.requires.room in
    let few_slots = room.few in
    let valves_room = room.valves in
    let links_room = room.links in
    let no_triggers = ap length c.requires.no_valves in
    let no_links = ap length c.requires.no_links in
    let children = children_few list sound.bounded in
    let same_children = ap children_among c.as_slice-list.ensures.checks in
    let long_seats = c.requires.no_seats.size in
    let no_refs = ap length c.requires.no_refs in
    let added = c.put_checks.ensures.size in
    let added_valves = c.put_checks.ensures.kept.valves in
    let added_links = c.put_checks.ensures.kept.links in
    let added_same = ap length c.put_checks.ensures.links in
    let spared = c.add_spares.ensures.size in
    let spared_valves = c.add_spares.ensures.kept.valves in
    let spared_links = c.add_spares.ensures.kept.links in
    let spared_same = ap length c.add_spares.ensures.links in
    let joined_valves = c.join_checks.ensures.kept.valves in
    let joined_links = c.join_checks.ensures.kept.links in
    let joined_same = ap length c.join_checks.ensures.triggers in
    let joined_more = ap length c.join_checks.ensures.links ∙ length-append c.put_checks.new.blueprint.links
    (check_links c.args.ids.now c.args.numbers.now 0 c.as_slice-list.result.now) in
    let joined_long = check_links_long c.args.ids.now c.args.numbers.now 0 c.as_slice-list.result.now in
    let refs_room = room.refs_room in
    record { few = omega arith; refs_room = omega arith; valves = omega arith }

pub group_all-requires-clause-apart : goal.group_all-requires-clause-apart
group_all-requires-clause-apart c =
    let checks = c.args.checks.now.checks in
    let list = checks.list in
    let sound = c.as_slice-list.ensures.sound in
    let few = sound.few in
    let as_list = ap length c.as_slice-list.ensures.checks in
    let room = c.requires.room in
    let few_slots = room.few in
    let valves_room = room.valves in
    let links_room = room.links in
    let no_triggers = ap length c.requires.no_valves in
    let no_links = ap length c.requires.no_links in
    let children = children_few list sound.bounded in
    let same_children = ap children_among c.as_slice-list.ensures.checks in
    let long_seats = c.requires.no_seats.size in
    let no_refs = ap length c.requires.no_refs in
    let added = c.put_checks.ensures.size in
    let added_valves = c.put_checks.ensures.kept.valves in
    let added_links = c.put_checks.ensures.kept.links in
    let added_same = ap length c.put_checks.ensures.links in
    let spared = c.add_spares.ensures.size in
    let spared_valves = c.add_spares.ensures.kept.valves in
    let spared_links = c.add_spares.ensures.kept.links in
    let spared_same = ap length c.add_spares.ensures.links in
    let joined_valves = c.join_checks.ensures.kept.valves in
    let joined_links = c.join_checks.ensures.kept.links in
    let joined_same = ap length c.join_checks.ensures.triggers in
    let joined_more = ap length c.join_checks.ensures.links ∙ length-append c.put_checks.new.blueprint.links
    (check_links c.args.ids.now c.args.numbers.now 0 c.as_slice-list.result.now) in
    let joined_long = check_links_long c.args.ids.now c.args.numbers.now 0 c.as_slice-list.result.now in
    let start : HaveOwnValves c.args.zones.now.zones 200 c.args.seats.now.items c.args.refs.now.items c.args.seats.now.items c.join_checks.new.blueprint.triggers =
    rw (c.requires.no_refs, c.join_checks.ensures.triggers)
    (none_listed c.args.zones.now.zones c.args.zones.now.slots c.args.seats.now.items c.requires.no_seats 200 c.put_checks.new.blueprint.triggers (omega arith) added) in
    let is_listed = c.list_targets.ensures.listed 200 c.args.seats.now.items (c.list_asked.ensures.listed 200 c.args.seats.now.items start) in
    let listed_size = is_listed.size in
    let listed_few = few_listed c.args.zones.now.zones 200 c.args.seats.now.items c.list_targets.new.refs.items c.list_targets.new.seats.items c.list_targets.new.blueprint.triggers
    is_listed in
    let listed_seats = c.list_asked.ensures.size in
    let listed_valves = c.list_asked.ensures.kept.valves in
    let listed_links = c.list_asked.ensures.kept.links in
    let listed_same = ap length c.list_asked.ensures.links in
    let more_seats = c.list_targets.ensures.size in
    let more_valves = c.list_targets.ensures.kept.valves in
    let more_links = c.list_targets.ensures.kept.links in
    let more_same = ap length c.list_targets.ensures.links in
    listed_apart c.args.zones.now.zones 200 c.args.seats.now.items c.list_targets.new.refs.items c.list_targets.new.seats.items c.list_targets.new.blueprint.triggers is_listed

pub group_all-requires-clause-few : goal.group_all-requires-clause-few
group_all-requires-clause-few c =
    let checks = c.args.checks.now.checks in
    let list = checks.list in
    let sound = c.as_slice-list.ensures.sound in
    let few = sound.few in
    let as_list = ap length c.as_slice-list.ensures.checks in
    let room = c.requires.room in
    let few_slots = room.few in
    let valves_room = room.valves in
    let links_room = room.links in
    let no_triggers = ap length c.requires.no_valves in
    let no_links = ap length c.requires.no_links in
    let children = children_few list sound.bounded in
    let same_children = ap children_among c.as_slice-list.ensures.checks in
    let long_seats = c.requires.no_seats.size in
    let no_refs = ap length c.requires.no_refs in
    let added = c.put_checks.ensures.size in
    let added_valves = c.put_checks.ensures.kept.valves in
    let added_links = c.put_checks.ensures.kept.links in
    let added_same = ap length c.put_checks.ensures.links in
    let spared = c.add_spares.ensures.size in
    let spared_valves = c.add_spares.ensures.kept.valves in
    let spared_links = c.add_spares.ensures.kept.links in
    let spared_same = ap length c.add_spares.ensures.links in
    let joined_valves = c.join_checks.ensures.kept.valves in
    let joined_links = c.join_checks.ensures.kept.links in
    let joined_same = ap length c.join_checks.ensures.triggers in
    let joined_more = ap length c.join_checks.ensures.links ∙ length-append c.put_checks.new.blueprint.links
    (check_links c.args.ids.now c.args.numbers.now 0 c.as_slice-list.result.now) in
    let joined_long = check_links_long c.args.ids.now c.args.numbers.now 0 c.as_slice-list.result.now in
    let start : HaveOwnValves c.args.zones.now.zones 200 c.args.seats.now.items c.args.refs.now.items c.args.seats.now.items c.join_checks.new.blueprint.triggers =
    rw (c.requires.no_refs, c.join_checks.ensures.triggers)
    (none_listed c.args.zones.now.zones c.args.zones.now.slots c.args.seats.now.items c.requires.no_seats 200 c.put_checks.new.blueprint.triggers (omega arith) added) in
    let is_listed = c.list_targets.ensures.listed 200 c.args.seats.now.items (c.list_asked.ensures.listed 200 c.args.seats.now.items start) in
    let listed_size = is_listed.size in
    let listed_few = few_listed c.args.zones.now.zones 200 c.args.seats.now.items c.list_targets.new.refs.items c.list_targets.new.seats.items c.list_targets.new.blueprint.triggers
    is_listed in
    let listed_seats = c.list_asked.ensures.size in
    let listed_valves = c.list_asked.ensures.kept.valves in
    let listed_links = c.list_asked.ensures.kept.links in
    let listed_same = ap length c.list_asked.ensures.links in
    let more_seats = c.list_targets.ensures.size in
    let more_valves = c.list_targets.ensures.kept.valves in
    let more_links = c.list_targets.ensures.kept.links in
    let more_same = ap length c.list_targets.ensures.links in
    omega arith

pub group_all-requires-clause-room : goal.group_all-requires-clause-room
group_all-requires-clause-room c =
    let checks = c.args.checks.now.checks in
    let list = checks.list in
    let sound = c.as_slice-list.ensures.sound in
    let few = sound.few in
    let as_list = ap length c.as_slice-list.ensures.checks in
    let room = c.requires.room in
    let few_slots = room.few in
    let valves_room = room.valves in
    let links_room = room.links in
    let no_triggers = ap length c.requires.no_valves in
    let no_links = ap length c.requires.no_links in
    let children = children_few list sound.bounded in
    let same_children = ap children_among c.as_slice-list.ensures.checks in
    let long_seats = c.requires.no_seats.size in
    let no_refs = ap length c.requires.no_refs in
    let added = c.put_checks.ensures.size in
    let added_valves = c.put_checks.ensures.kept.valves in
    let added_links = c.put_checks.ensures.kept.links in
    let added_same = ap length c.put_checks.ensures.links in
    let spared = c.add_spares.ensures.size in
    let spared_valves = c.add_spares.ensures.kept.valves in
    let spared_links = c.add_spares.ensures.kept.links in
    let spared_same = ap length c.add_spares.ensures.links in
    let joined_valves = c.join_checks.ensures.kept.valves in
    let joined_links = c.join_checks.ensures.kept.links in
    let joined_same = ap length c.join_checks.ensures.triggers in
    let joined_more = ap length c.join_checks.ensures.links ∙ length-append c.put_checks.new.blueprint.links
    (check_links c.args.ids.now c.args.numbers.now 0 c.as_slice-list.result.now) in
    let joined_long = check_links_long c.args.ids.now c.args.numbers.now 0 c.as_slice-list.result.now in
    let start : HaveOwnValves c.args.zones.now.zones 200 c.args.seats.now.items c.args.refs.now.items c.args.seats.now.items c.join_checks.new.blueprint.triggers =
    rw (c.requires.no_refs, c.join_checks.ensures.triggers)
    (none_listed c.args.zones.now.zones c.args.zones.now.slots c.args.seats.now.items c.requires.no_seats 200 c.put_checks.new.blueprint.triggers (omega arith) added) in
    let is_listed = c.list_targets.ensures.listed 200 c.args.seats.now.items (c.list_asked.ensures.listed 200 c.args.seats.now.items start) in
    let listed_size = is_listed.size in
    let listed_few = few_listed c.args.zones.now.zones 200 c.args.seats.now.items c.list_targets.new.refs.items c.list_targets.new.seats.items c.list_targets.new.blueprint.triggers
    is_listed in
    let listed_seats = c.list_asked.ensures.size in
    let listed_valves = c.list_asked.ensures.kept.valves in
    let listed_links = c.list_asked.ensures.kept.links in
    let listed_same = ap length c.list_asked.ensures.links in
    let more_seats = c.list_targets.ensures.size in
    let more_valves = c.list_targets.ensures.kept.valves in
    let more_links = c.list_targets.ensures.kept.links in
    let more_same = ap length c.list_targets.ensures.links in
    omega arith

pub group_all-requires-clause-links_room : goal.group_all-requires-clause-links_room
group_all-requires-clause-links_room c =
    let checks = c.args.checks.now.checks in
    let list = checks.list in
    let sound = c.as_slice-list.ensures.sound in
    let few = sound.few in
    let as_list = ap length c.as_slice-list.ensures.checks in
    let room = c.requires.room in
    let few_slots = room.few in
    let valves_room = room.valves in
    let links_room = room.links in
    let no_triggers = ap length c.requires.no_valves in
    let no_links = ap length c.requires.no_links in
    let children = children_few list sound.bounded in
    let same_children = ap children_among c.as_slice-list.ensures.checks in
    let long_seats = c.requires.no_seats.size in
    let no_refs = ap length c.requires.no_refs in
    let added = c.put_checks.ensures.size in
    let added_valves = c.put_checks.ensures.kept.valves in
    let added_links = c.put_checks.ensures.kept.links in
    let added_same = ap length c.put_checks.ensures.links in
    let spared = c.add_spares.ensures.size in
    let spared_valves = c.add_spares.ensures.kept.valves in
    let spared_links = c.add_spares.ensures.kept.links in
    let spared_same = ap length c.add_spares.ensures.links in
    let joined_valves = c.join_checks.ensures.kept.valves in
    let joined_links = c.join_checks.ensures.kept.links in
    let joined_same = ap length c.join_checks.ensures.triggers in
    let joined_more = ap length c.join_checks.ensures.links ∙ length-append c.put_checks.new.blueprint.links
    (check_links c.args.ids.now c.args.numbers.now 0 c.as_slice-list.result.now) in
    let joined_long = check_links_long c.args.ids.now c.args.numbers.now 0 c.as_slice-list.result.now in
    let start : HaveOwnValves c.args.zones.now.zones 200 c.args.seats.now.items c.args.refs.now.items c.args.seats.now.items c.join_checks.new.blueprint.triggers =
    rw (c.requires.no_refs, c.join_checks.ensures.triggers)
    (none_listed c.args.zones.now.zones c.args.zones.now.slots c.args.seats.now.items c.requires.no_seats 200 c.put_checks.new.blueprint.triggers (omega arith) added) in
    let is_listed = c.list_targets.ensures.listed 200 c.args.seats.now.items (c.list_asked.ensures.listed 200 c.args.seats.now.items start) in
    let listed_size = is_listed.size in
    let listed_few = few_listed c.args.zones.now.zones 200 c.args.seats.now.items c.list_targets.new.refs.items c.list_targets.new.seats.items c.list_targets.new.blueprint.triggers
    is_listed in
    let listed_seats = c.list_asked.ensures.size in
    let listed_valves = c.list_asked.ensures.kept.valves in
    let listed_links = c.list_asked.ensures.kept.links in
    let listed_same = ap length c.list_asked.ensures.links in
    let more_seats = c.list_targets.ensures.size in
    let more_valves = c.list_targets.ensures.kept.valves in
    let more_links = c.list_targets.ensures.kept.links in
    let more_same = ap length c.list_targets.ensures.links in
    omega arith

pub join_sets-requires-clause-few_sets : goal.join_sets-requires-clause-few_sets
join_sets-requires-clause-few_sets c =
    let checks = c.args.checks.now.checks in
    let list = checks.list in
    let sound = c.as_slice-list.ensures.sound in
    let few = sound.few in
    let as_list = ap length c.as_slice-list.ensures.checks in
    let room = c.requires.room in
    let few_slots = room.few in
    let valves_room = room.valves in
    let links_room = room.links in
    let no_triggers = ap length c.requires.no_valves in
    let no_links = ap length c.requires.no_links in
    let children = children_few list sound.bounded in
    let same_children = ap children_among c.as_slice-list.ensures.checks in
    let long_seats = c.requires.no_seats.size in
    let no_refs = ap length c.requires.no_refs in
    let added = c.put_checks.ensures.size in
    let added_valves = c.put_checks.ensures.kept.valves in
    let added_links = c.put_checks.ensures.kept.links in
    let added_same = ap length c.put_checks.ensures.links in
    let spared = c.add_spares.ensures.size in
    let spared_valves = c.add_spares.ensures.kept.valves in
    let spared_links = c.add_spares.ensures.kept.links in
    let spared_same = ap length c.add_spares.ensures.links in
    let joined_valves = c.join_checks.ensures.kept.valves in
    let joined_links = c.join_checks.ensures.kept.links in
    let joined_same = ap length c.join_checks.ensures.triggers in
    let joined_more = ap length c.join_checks.ensures.links ∙ length-append c.put_checks.new.blueprint.links
    (check_links c.args.ids.now c.args.numbers.now 0 c.as_slice-list.result.now) in
    let joined_long = check_links_long c.args.ids.now c.args.numbers.now 0 c.as_slice-list.result.now in
    let start : HaveOwnValves c.args.zones.now.zones 200 c.args.seats.now.items c.args.refs.now.items c.args.seats.now.items c.join_checks.new.blueprint.triggers =
    rw (c.requires.no_refs, c.join_checks.ensures.triggers)
    (none_listed c.args.zones.now.zones c.args.zones.now.slots c.args.seats.now.items c.requires.no_seats 200 c.put_checks.new.blueprint.triggers (omega arith) added) in
    let is_listed = c.list_targets.ensures.listed 200 c.args.seats.now.items (c.list_asked.ensures.listed 200 c.args.seats.now.items start) in
    let listed_size = is_listed.size in
    let listed_few = few_listed c.args.zones.now.zones 200 c.args.seats.now.items c.list_targets.new.refs.items c.list_targets.new.seats.items c.list_targets.new.blueprint.triggers
    is_listed in
    let listed_seats = c.list_asked.ensures.size in
    let listed_valves = c.list_asked.ensures.kept.valves in
    let listed_links = c.list_asked.ensures.kept.links in
    let listed_same = ap length c.list_asked.ensures.links in
    let more_seats = c.list_targets.ensures.size in
    let more_valves = c.list_targets.ensures.kept.valves in
    let more_links = c.list_targets.ensures.kept.links in
    let more_same = ap length c.list_targets.ensures.links in
    let refs = ap length c.deref-3.ensures.value in
    let ids = ap length c.requires.ids ∙ ids_long list in
    omega arith

pub join_sets-requires-clause-room : goal.join_sets-requires-clause-room
join_sets-requires-clause-room c =
    let checks = c.args.checks.now.checks in
    let list = checks.list in
    let sound = c.as_slice-list.ensures.sound in
    let few = sound.few in
    let as_list = ap length c.as_slice-list.ensures.checks in
    let room = c.requires.room in
    let few_slots = room.few in
    let valves_room = room.valves in
    let links_room = room.links in
    let no_triggers = ap length c.requires.no_valves in
    let no_links = ap length c.requires.no_links in
    let children = children_few list sound.bounded in
    let same_children = ap children_among c.as_slice-list.ensures.checks in
    let long_seats = c.requires.no_seats.size in
    let no_refs = ap length c.requires.no_refs in
    let added = c.put_checks.ensures.size in
    let added_valves = c.put_checks.ensures.kept.valves in
    let added_links = c.put_checks.ensures.kept.links in
    let added_same = ap length c.put_checks.ensures.links in
    let spared = c.add_spares.ensures.size in
    let spared_valves = c.add_spares.ensures.kept.valves in
    let spared_links = c.add_spares.ensures.kept.links in
    let spared_same = ap length c.add_spares.ensures.links in
    let joined_valves = c.join_checks.ensures.kept.valves in
    let joined_links = c.join_checks.ensures.kept.links in
    let joined_same = ap length c.join_checks.ensures.triggers in
    let joined_more = ap length c.join_checks.ensures.links ∙ length-append c.put_checks.new.blueprint.links
    (check_links c.args.ids.now c.args.numbers.now 0 c.as_slice-list.result.now) in
    let joined_long = check_links_long c.args.ids.now c.args.numbers.now 0 c.as_slice-list.result.now in
    let start : HaveOwnValves c.args.zones.now.zones 200 c.args.seats.now.items c.args.refs.now.items c.args.seats.now.items c.join_checks.new.blueprint.triggers =
    rw (c.requires.no_refs, c.join_checks.ensures.triggers)
    (none_listed c.args.zones.now.zones c.args.zones.now.slots c.args.seats.now.items c.requires.no_seats 200 c.put_checks.new.blueprint.triggers (omega arith) added) in
    let is_listed = c.list_targets.ensures.listed 200 c.args.seats.now.items (c.list_asked.ensures.listed 200 c.args.seats.now.items start) in
    let listed_size = is_listed.size in
    let listed_few = few_listed c.args.zones.now.zones 200 c.args.seats.now.items c.list_targets.new.refs.items c.list_targets.new.seats.items c.list_targets.new.blueprint.triggers
    is_listed in
    let listed_seats = c.list_asked.ensures.size in
    let listed_valves = c.list_asked.ensures.kept.valves in
    let listed_links = c.list_asked.ensures.kept.links in
    let listed_same = ap length c.list_asked.ensures.links in
    let more_seats = c.list_targets.ensures.size in
    let more_valves = c.list_targets.ensures.kept.valves in
    let more_links = c.list_targets.ensures.kept.links in
    let more_same = ap length c.list_targets.ensures.links in
    let can = c.group_all.ensures.grouped in
    let grouped_few = few_grouped c.args.zones.now.zones (length c.list_targets.new.blueprint.triggers) c.group_all.new.seats.items c.group_all.new.blueprint.triggers
    c.group_all.new.blueprint.links can.grouped in
    let grouped_seats = c.group_all.ensures.size in
    let grouped_long = joined_few (length c.list_targets.new.blueprint.triggers) (length c.list_targets.new.blueprint.links) c.group_all.new.seats.items
    c.group_all.new.blueprint.links can.joined in
    let grouped_valves = c.group_all.ensures.kept.valves in
    let grouped_links = c.group_all.ensures.kept.links in
    let refs = ap length c.deref-3.ensures.value in
    omega arith

pub returns-clause-few_valves : goal.returns-clause-few_valves
returns-clause-few_valves c =
    let checks = c.args.checks.now.checks in
    let list = checks.list in
    let sound = c.as_slice-list.ensures.sound in
    let few = sound.few in
    let as_list = ap length c.as_slice-list.ensures.checks in
    let room = c.requires.room in
    let few_slots = room.few in
    let valves_room = room.valves in
    let links_room = room.links in
    let no_triggers = ap length c.requires.no_valves in
    let no_links = ap length c.requires.no_links in
    let children = children_few list sound.bounded in
    let same_children = ap children_among c.as_slice-list.ensures.checks in
    let long_seats = c.requires.no_seats.size in
    let no_refs = ap length c.requires.no_refs in
    let added = c.put_checks.ensures.size in
    let added_valves = c.put_checks.ensures.kept.valves in
    let added_links = c.put_checks.ensures.kept.links in
    let added_same = ap length c.put_checks.ensures.links in
    let spared = c.add_spares.ensures.size in
    let spared_valves = c.add_spares.ensures.kept.valves in
    let spared_links = c.add_spares.ensures.kept.links in
    let spared_same = ap length c.add_spares.ensures.links in
    let joined_valves = c.join_checks.ensures.kept.valves in
    let joined_links = c.join_checks.ensures.kept.links in
    let joined_same = ap length c.join_checks.ensures.triggers in
    let joined_more = ap length c.join_checks.ensures.links ∙ length-append c.put_checks.new.blueprint.links
    (check_links c.args.ids.now c.args.numbers.now 0 c.as_slice-list.result.now) in
    let joined_long = check_links_long c.args.ids.now c.args.numbers.now 0 c.as_slice-list.result.now in
    let start : HaveOwnValves c.args.zones.now.zones 200 c.args.seats.now.items c.args.refs.now.items c.args.seats.now.items c.join_checks.new.blueprint.triggers =
    rw (c.requires.no_refs, c.join_checks.ensures.triggers)
    (none_listed c.args.zones.now.zones c.args.zones.now.slots c.args.seats.now.items c.requires.no_seats 200 c.put_checks.new.blueprint.triggers (omega arith) added) in
    let is_listed = c.list_targets.ensures.listed 200 c.args.seats.now.items (c.list_asked.ensures.listed 200 c.args.seats.now.items start) in
    let listed_size = is_listed.size in
    let listed_few = few_listed c.args.zones.now.zones 200 c.args.seats.now.items c.list_targets.new.refs.items c.list_targets.new.seats.items c.list_targets.new.blueprint.triggers
    is_listed in
    let listed_seats = c.list_asked.ensures.size in
    let listed_valves = c.list_asked.ensures.kept.valves in
    let listed_links = c.list_asked.ensures.kept.links in
    let listed_same = ap length c.list_asked.ensures.links in
    let more_seats = c.list_targets.ensures.size in
    let more_valves = c.list_targets.ensures.kept.valves in
    let more_links = c.list_targets.ensures.kept.links in
    let more_same = ap length c.list_targets.ensures.links in
    let can = c.group_all.ensures.grouped in
    let grouped_few = few_grouped c.args.zones.now.zones (length c.list_targets.new.blueprint.triggers) c.group_all.new.seats.items c.group_all.new.blueprint.triggers
    c.group_all.new.blueprint.links can.grouped in
    let grouped_seats = c.group_all.ensures.size in
    let grouped_long = joined_few (length c.list_targets.new.blueprint.triggers) (length c.list_targets.new.blueprint.links) c.group_all.new.seats.items
    c.group_all.new.blueprint.links can.joined in
    let grouped_valves = c.group_all.ensures.kept.valves in
    let grouped_links = c.group_all.ensures.kept.links in
    let same = ap length c.join_sets.ensures.triggers in
    omega arith

pub returns-clause-links_by_refs : goal.returns-clause-links_by_refs
returns-clause-links_by_refs c =
    let checks = c.args.checks.now.checks in
    let list = checks.list in
    let sound = c.as_slice-list.ensures.sound in
    let few = sound.few in
    let as_list = ap length c.as_slice-list.ensures.checks in
    let room = c.requires.room in
    let few_slots = room.few in
    let valves_room = room.valves in
    let links_room = room.links in
    let no_triggers = ap length c.requires.no_valves in
    let no_links = ap length c.requires.no_links in
    let children = children_few list sound.bounded in
    let same_children = ap children_among c.as_slice-list.ensures.checks in
    let long_seats = c.requires.no_seats.size in
    let no_refs = ap length c.requires.no_refs in
    let added = c.put_checks.ensures.size in
    let added_valves = c.put_checks.ensures.kept.valves in
    let added_links = c.put_checks.ensures.kept.links in
    let added_same = ap length c.put_checks.ensures.links in
    let spared = c.add_spares.ensures.size in
    let spared_valves = c.add_spares.ensures.kept.valves in
    let spared_links = c.add_spares.ensures.kept.links in
    let spared_same = ap length c.add_spares.ensures.links in
    let joined_valves = c.join_checks.ensures.kept.valves in
    let joined_links = c.join_checks.ensures.kept.links in
    let joined_same = ap length c.join_checks.ensures.triggers in
    let joined_more = ap length c.join_checks.ensures.links ∙ length-append c.put_checks.new.blueprint.links
    (check_links c.args.ids.now c.args.numbers.now 0 c.as_slice-list.result.now) in
    let joined_long = check_links_long c.args.ids.now c.args.numbers.now 0 c.as_slice-list.result.now in
    let start : HaveOwnValves c.args.zones.now.zones 200 c.args.seats.now.items c.args.refs.now.items c.args.seats.now.items c.join_checks.new.blueprint.triggers =
    rw (c.requires.no_refs, c.join_checks.ensures.triggers)
    (none_listed c.args.zones.now.zones c.args.zones.now.slots c.args.seats.now.items c.requires.no_seats 200 c.put_checks.new.blueprint.triggers (omega arith) added) in
    let is_listed = c.list_targets.ensures.listed 200 c.args.seats.now.items (c.list_asked.ensures.listed 200 c.args.seats.now.items start) in
    let listed_size = is_listed.size in
    let listed_seats = c.list_asked.ensures.size in
    let listed_valves = c.list_asked.ensures.kept.valves in
    let listed_links = c.list_asked.ensures.kept.links in
    let listed_same = ap length c.list_asked.ensures.links in
    let more_seats = c.list_targets.ensures.size in
    let more_valves = c.list_targets.ensures.kept.valves in
    let more_links = c.list_targets.ensures.kept.links in
    let more_same = ap length c.list_targets.ensures.links in
    let can = c.group_all.ensures.grouped in
    let grouped_few = few_grouped c.args.zones.now.zones (length c.list_targets.new.blueprint.triggers) c.group_all.new.seats.items c.group_all.new.blueprint.triggers
    c.group_all.new.blueprint.links can.grouped in
    let grouped_seats = c.group_all.ensures.size in
    let grouped_long = joined_few (length c.list_targets.new.blueprint.triggers) (length c.list_targets.new.blueprint.links) c.group_all.new.seats.items
    c.group_all.new.blueprint.links can.joined in
    let grouped_valves = c.group_all.ensures.kept.valves in
    let grouped_links = c.group_all.ensures.kept.links in
    let refs = ap length c.deref-3.ensures.value in
    let last = c.join_sets.ensures.few in
    let last_links = c.join_sets.ensures.kept.links in
    omega arith

pub returns-clause-few_links : goal.returns-clause-few_links
returns-clause-few_links c =
    let links = returns-clause-links_by_refs c in
    let long_seats = c.requires.no_seats.size in
    let added = c.put_checks.ensures.size in
    let start : HaveOwnValves c.args.zones.now.zones 200 c.args.seats.now.items c.args.refs.now.items c.args.seats.now.items c.join_checks.new.blueprint.triggers =
    rw (c.requires.no_refs, c.join_checks.ensures.triggers)
    (none_listed c.args.zones.now.zones c.args.zones.now.slots c.args.seats.now.items c.requires.no_seats 200 c.put_checks.new.blueprint.triggers (omega arith) added) in
    let is_listed = c.list_targets.ensures.listed 200 c.args.seats.now.items (c.list_asked.ensures.listed 200 c.args.seats.now.items start) in
    let listed_few = few_listed c.args.zones.now.zones 200 c.args.seats.now.items c.list_targets.new.refs.items c.list_targets.new.seats.items c.list_targets.new.blueprint.triggers
    is_listed in
    let listed_seats = c.list_asked.ensures.size in
    let more_seats = c.list_targets.ensures.size in
    omega (arith, links, long_seats, listed_few, listed_seats, more_seats)
