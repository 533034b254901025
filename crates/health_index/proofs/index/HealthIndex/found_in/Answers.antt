use Rattle.std.proofs.Common.{◌≡◌, ◌≤◌, ◌<◌, ◌+◌, ◌-◌, ◌*◌, ◌++◌, ◌∷◌, [], ℕ, suc, List, Some, length, length-append, take, arith, refl, ap, sym, ◌∙◌}
use Rattle.std.specs.Prelude.{All}
use Rattle.std.specs.Option.{option_to_list}
use Rattle.std.proofs.lemmas.Bool.{false≢true}
use mathlib.Core.Path.{subst}
use Rattle.health_index.proofs.Counted.{many_counted, own_below}
use Rattle.health_index.proofs.Founded.{comes_first_by, founded_by, index_founded, whole_founded}
use Rattle.health_index.specs.Founding.{AreSeatedOwned, ComesFirstOwned, HasRoomForTwo, refs_of, with_group, with_two_counts}
use Rattle.health_index.specs.Index.{Index, StandsFor}
use Rattle.health_index.specs.Room.{HasRoom, HasValveRoomForGroup}
use Rattle.health_planning.proofs.ListedOnce.{slot_below}
use Rattle.health_planning.proofs.Roomy.{members_few}
use Rattle.health_planning.specs.Groups.{members_of}
use Rattle.health_planning.specs.SetRefRecord.{SetRef}
use Rattle.health_planning.specs.Wired.{plain_among, valves_of}
use Rattle.health_planning.specs.declared.seats.Seat.{Seat}
use Rattle.health_valves.specs.Laying.{HasRoomFor}
use Rattle.health_valves.specs.Pass.{MeetAll}
use Rattle.health_valves.specs.Valves.{HasEnds, ValvesStandFor, size_of}
use Rattle.health_valves.specs.declared.valves.Valves.{Valves}
use Rattle.zone_model.specs.Slotted.{Slotted}
use Rattle.health_index.proofs.Laid.{adds_group}
use Rattle.std.proofs.lemmas.List.{length-map}
use Rattle.health_planning.specs.Changes.{ref_in}
use Rattle.health_index.proofs.index.HealthIndex.found_in.Goals as goal

some_same : {X : Type 0} {x y : X} → Some x ≡ Some y → x ≡ y
some_same e = cc

pub returns-in_default-clause-founded : goal.returns-in_default-clause-founded
returns-in_default-clause-founded c members feeders comes room =
    let zones = c.args.zones.now.zones in
    let here = subst (λ (i : Index). ComesFirstOwned zones i.ids i.numbers i.seats i.valves c.args.alias members feeders) (sym c.self.view_is) comes in
    let e = c.in_default.ensures.all members feeders
    (comes_first_by zones c.args.alias members feeders (sym c.deref.ensures.value) (sym c.deref-2.ensures.value) (sym c.deref-3.ensures.value) refl here) in
    let is = e.1.0 in
    let no : ⊥ = cc in absurd no

pub returns-then-len-capacity-clause-founded : goal.returns-then-len-capacity-clause-founded
returns-then-len-capacity-clause-founded c members feeders comes room =
    let below = subst (λ (i : Index). length i.refs < i.space.refs) (sym c.self.view_is) room.refs in
    let full = c.if-len-capacity.true in
    let long = c.len.ensures in
    let cap = c.capacity.ensures in
    let its = c.self.inside.refs.ok.0 in
    absurd (omega (arith, below, full, long, cap, its))

pub returns-then-not-has_room_for-clause-founded : goal.returns-then-not-has_room_for-clause-founded
returns-then-not-has_room_for-clause-founded c members feeders comes room =
    let zones = c.args.zones.now.zones in
    let here = subst (λ (i : Index). ComesFirstOwned zones i.ids i.numbers i.seats i.valves c.args.alias members feeders) (sym c.self.view_is) comes in
    let e = c.in-Some.ensures.all members feeders
    (comes_first_by zones c.args.alias members feeders (sym c.deref.ensures.value) (sym c.deref-2.ensures.value) (sym c.deref-3.ensures.value) refl here) in
    let its = ap (λ f. members_of zones f.group) (some_same e.1.0) ∙ e.1.1.0 in
    let long = (c.in-Some.ensures.group c.in-Some.first refl).1.1 ∙ ap (λ (l : List Slotted). length l) its in
    let few = subst (λ (i : Index). length i.members + length members ≤ i.space.members) (sym c.self.view_is) room.members in
    absurd (false≢true (sym c.if-not-has_room_for.true ∙ c.has_room_for.ensures.1 (omega (arith, long, few))))

pub returns-in_default-own_valves_in-clause-founded : goal.returns-in_default-own_valves_in-clause-founded
returns-in_default-own_valves_in-clause-founded c members feeders comes room =
    let zones = c.args.zones.now.zones in
    let seats = c.self.inside.seats.items in
    let here = subst (λ (i : Index). ComesFirstOwned zones i.ids i.numbers i.seats i.valves c.args.alias members feeders) (sym c.self.view_is) comes in
    let e = c.in-Some.ensures.all members feeders
    (comes_first_by zones c.args.alias members feeders (sym c.deref.ensures.value) (sym c.deref-2.ensures.value) (sym c.deref-3.ensures.value) refl here) in
    let its = ap (λ f. members_of zones f.group) (some_same e.1.0) ∙ e.1.1.0 in
    let few = subst (λ (i : Index). length (valves_of i.seats members) ≤ 128) (sym c.self.view_is) room.few in
    let more = c.in_default-own_valves_in.ensures.none refl in
    let same = ap (λ (l : List ℕ). length l) (ap (λ (l : List Seat). valves_of l (members_of zones c.in-Some.first.group)) c.deref-4.ensures.value
    ∙ ap (valves_of seats) its) in
    absurd (omega (arith, few, more, same))

pub returns-then-not-has_room_for_group-clause-founded : goal.returns-then-not-has_room_for_group-clause-founded
returns-then-not-has_room_for_group-clause-founded c members feeders comes room =
    let zones = c.args.zones.now.zones in
    let slots = c.args.zones.now.slots in
    let seats = c.self.inside.seats.items in
    let here = subst (λ (i : Index). ComesFirstOwned zones i.ids i.numbers i.seats i.valves c.args.alias members feeders) (sym c.self.view_is) comes in
    let e = c.in-Some.ensures.all members feeders
    (comes_first_by zones c.args.alias members feeders (sym c.deref.ensures.value) (sym c.deref-2.ensures.value) (sym c.deref-3.ensures.value) refl here) in
    let its = ap (λ f. members_of zones f.group) (some_same e.1.0) ∙ e.1.1.0 in
    let f = c.in-Some-own_valves_in.ensures.found c.in-Some-own_valves_in.many refl in
    let n = many_counted seats (members_of zones c.in-Some.first.group) c.own_valves_in.new.into c.in-Some-own_valves_in.many
    c.in-Some.first.group.length f.0 (f.1 ∙ ap (λ (l : List Seat). valves_of l (members_of zones c.in-Some.first.group)) c.deref-4.ensures.value)
    (c.in-Some.ensures.group c.in-Some.first refl).1.1 in
    let same : length (valves_of seats members) ≡ c.in-Some-own_valves_in.many =
    sym (n.0 ∙ ap (λ (l : List Slotted). length (valves_of seats l)) its) in
    let free = subst (λ (i : Index). HasValveRoomForGroup i.valves (length (valves_of i.seats members)) slots) (sym c.self.view_is) room.valves in
    absurd (false≢true (sym c.if-not-has_room_for_group.true
    ∙ c.has_room_for_group.ensures.1 (subst (HasValveRoomForGroup c.self.inside.valves c.in-Some-own_valves_in.many) (sym c.slots.ensures)
    (subst (λ (k : ℕ). HasValveRoomForGroup c.self.inside.valves k slots) same free))))

room_for_two : (valves : Valves) (fed slots : ℕ) → HasRoomFor valves (slots * 2 + 200) (slots * 3 + 51200)
    → HasValveRoomForGroup valves fed slots → HasRoomForTwo valves fed
room_for_two valves fed slots room more =
    let below = more.valves_below in
    let rows = room.rows in
    let lists = room.lists in
    let values = room.values in
    let counts = room.counts in
    let owns = room.owns in
    let cone = room.cone in
    let marks = room.marks in
    let feeds = room.feeds in
    let links = more.links_below in
    record {
      all = record {
        rows = omega (arith, below, rows);
        feeds = omega (arith, feeds, links);
        lists = omega (arith, below, lists);
        values = omega (arith, below, values);
        counts = omega (arith, below, counts);
        owns = omega (arith, below, owns);
        cone = omega (arith, below, cone);
        marks = omega (arith, below, marks);
      };
      links = omega (arith, feeds, links);
    }

pub push_first-requires-clause-check : goal.push_first-requires-clause-check
push_first-requires-clause-check c = (c.in-Some.ensures.found c.in-Some.first refl).within

pub own_valves_in-requires : goal.own_valves_in-requires
own_valves_in-requires c = record { group = (c.in-Some.ensures.group c.in-Some.first refl).0 }

pub has_room_for_group-requires-clause-few_fed : goal.has_room_for_group-requires-clause-few_fed
has_room_for_group-requires-clause-few_fed c =
    let f = c.in-Some-own_valves_in.ensures.found c.in-Some-own_valves_in.many refl in
    let within = f.0 in
    let size = c.in-Some-own_valves_in.ensures.size in
    omega (arith, within, size)

-- how many valves of their own the sets have, and how many sets none
counts : (seats read : List Seat) (members : List Slotted) (into : List ℕ) (many n : ℕ)
    → (many ≤ length into) × (take many into ≡ valves_of read members) → read ≡ seats → n ≡ length members
    → (many ≡ length (valves_of seats members)) × ((many ≤ n) × (n - many ≡ plain_among seats members))
counts seats read members into many n f same long =
    many_counted seats members into many n f.0 (f.1 ∙ ap (λ (l : List Seat). valves_of l members) same) long

pub overflow_sub-plain : goal.overflow_sub-plain
overflow_sub-plain c =
    let zones = c.args.zones.now.zones in
    (counts c.self.inside.seats.items c.deref-4.result.now (members_of zones c.in-Some.first.group) c.own_valves_in.new.into
    c.in-Some-own_valves_in.many c.in-Some.first.group.length (c.in-Some-own_valves_in.ensures.found c.in-Some-own_valves_in.many refl)
    c.deref-4.ensures.value (c.in-Some.ensures.group c.in-Some.first refl).1.1).1.0

pub overflow_cast-plain : goal.overflow_cast-plain
overflow_cast-plain c =
    let zones = c.args.zones.now.zones in
    let slots = c.args.zones.now.slots in
    let room = subst (λ (i : Index). HasRoom i slots) (sym c.self.view_is) c.requires.room in
    let few = room.few in
    let long = (c.in-Some.ensures.group c.in-Some.first refl).1.1 in
    let below = members_few zones c.in-Some.first.group slots c.well_formed-2.ensures c.slots_within.ensures.within in
    omega (arith, few, long, below)

pub slice_bounds-valves-end : goal.slice_bounds-valves-end
slice_bounds-valves-end c = (c.in-Some-own_valves_in.ensures.found c.in-Some-own_valves_in.many refl).0

pub push_first-requires-clause-fed : goal.push_first-requires-clause-fed
push_first-requires-clause-fed c =
    let zones = c.args.zones.now.zones in
    let w = c.self.invariant in
    let those = members_of zones c.in-Some.first.group in
    let f = c.in-Some-own_valves_in.ensures.found c.in-Some-own_valves_in.many refl in
    subst (λ (l : List ℕ). All (λ x. x < size_of c.self.inside.valves) l) (sym (f.1 ∙ ap (λ (l : List Seat). valves_of l those) c.deref-4.ensures.value))
    (own_below c.self.inside.seats.items those (size_of c.self.inside.valves)
    (λ slot valve is. let low = w.seated slot valve is in let size = w.fits.laid.size in omega (arith, low, size)))

pub push_first-requires-clause-sets : goal.push_first-requires-clause-sets
push_first-requires-clause-sets c =
    let zones = c.args.zones.now.zones in
    let slots = c.args.zones.now.slots in
    let room = subst (λ (i : Index). HasRoom i slots) (sym c.self.view_is) c.requires.room in
    let few = room.few in
    let long = (c.in-Some.ensures.group c.in-Some.first refl).1.1 in
    let below = members_few zones c.in-Some.first.group slots c.well_formed-2.ensures c.slots_within.ensures.within in
    omega (arith, few, long, below)

pub seat_first-requires-clause-slot : goal.seat_first-requires-clause-slot
seat_first-requires-clause-slot c =
    let comes = c.in-Some.ensures.found c.in-Some.first refl in
    slot_below c.args.zones.now.zones c.args.zones.now.slots c.args.alias comes.set c.slots_within.ensures.within comes.names

pub invariant_of-self-2 : goal.invariant_of-self-2
invariant_of-self-2 c =
    let w = c.self.invariant in
    let zones = c.args.zones.now.zones in
    let g = c.in-Some.ensures.group c.in-Some.first refl in
    let those = members_of zones c.in-Some.first.group in
    let size = c.len-2.ensures in
    let told : c.len-2.result + 1 ≡ suc (size_of c.self.inside.valves) = omega (arith, size) in
    let seated = subst (λ (n : ℕ). AreSeatedOwned c.args.alias.slot those n c.self.inside.seats.items c.seat_first.new.seats.items) told c.seat_first.ensures.seated in
    let comes = c.in-Some.ensures.found c.in-Some.first refl in
    let feeders = option_to_list c.in-Some.first.check in
    whole_founded _ w c.push_first.new.valves (take c.in-Some-own_valves_in.many c.own_valves_in.new.into) feeders
    (c.in-Some.first.group.length - c.in-Some-own_valves_in.many) c.seat_first.new.seats.items c.args.alias those
    c.push_reserved.new.self.items c.note_those.new.members.items _ comes.many
    (c.push_first.ensures.fits w.net w.own w.fits)
    c.push_first.ensures.idle seated c.push_reserved.ensures.items
    (c.note_those.ensures.noted ∙ ap (λ (z : ℕ). c.self.inside.members.items ++ refs_of z those) g.1.0)

pub returns-clause-stands : goal.returns-clause-stands
returns-clause-stands c before old reports stands left done =
    let zones = c.args.zones.now.zones in
    let g = c.in-Some.ensures.group c.in-Some.first refl in
    let those = members_of zones c.in-Some.first.group in
    let seats = c.self.inside.seats.items in
    let feeders = option_to_list c.in-Some.first.check in
    let size = c.len-2.ensures in
    let told : c.len-2.result + 1 ≡ suc (size_of c.self.inside.valves) = omega (arith, size) in
    let seated = subst (λ (n : ℕ). AreSeatedOwned c.args.alias.slot those n seats c.seat_first.new.seats.items) told c.seat_first.ensures.seated in
    let was = subst (StandsFor before old reports) (sym c.self.view_is) stands in
    let comes = comes_first_by zones c.args.alias those feeders c.deref.ensures.value c.deref-2.ensures.value c.deref-3.ensures.value refl
    (c.in-Some.ensures.found c.in-Some.first refl) in
    let f = c.in-Some-own_valves_in.ensures.found c.in-Some-own_valves_in.many refl in
    let fed = f.1 ∙ ap (λ (l : List Seat). valves_of l those) c.deref-4.ensures.value in
    let plains = (counts seats c.deref-4.result.now those c.own_valves_in.new.into c.in-Some-own_valves_in.many c.in-Some.first.group.length f
    c.deref-4.ensures.value g.1.1).1.1 in
    founded_by before zones old c.args.checks.now.checks reports _ c.args.delta.now was c.well_formed-2.ensures c.slots_apart.ensures c.requires.sound
    c.paths_end.ensures c.push_first.new.valves _ c.seat_first.new.seats.items c.push_reserved.new.self.items c.note_those.new.members.items c.args.alias those feeders
    (λ net own fits. subst (λ (l : List ℕ). ValvesStandFor (with_group l feeders net) (with_two_counts (plain_among seats those) net.size own) c.push_first.new.valves) fed
    (subst (λ (n : ℕ). ValvesStandFor (with_group (take c.in-Some-own_valves_in.many c.own_valves_in.new.into) feeders net) (with_two_counts n net.size own) c.push_first.new.valves) plains
    (c.push_first.ensures.fits net own fits)))
    (λ net own fits ends meet. subst (λ (l : List ℕ). MeetAll (with_group l feeders net) (with_two_counts (plain_among seats those) net.size own) c.push_first.new.valves) fed
    (subst (λ (n : ℕ). MeetAll (with_group (take c.in-Some-own_valves_in.many c.own_valves_in.new.into) feeders net) (with_two_counts n net.size own) c.push_first.new.valves) plains
    (c.push_first.ensures.meet net own fits (subst (λ (l : List ℕ). HasEnds (with_group l feeders net)) (sym fed) ends) meet)))
    c.push_first.ensures.idle left c.requires.come comes seated c.push_reserved.ensures.items

pub returns-clause-founded : goal.returns-clause-founded
returns-clause-founded c members feeders comes room =
    let zones = c.args.zones.now.zones in
    let g = c.in-Some.ensures.group c.in-Some.first refl in
    let those = members_of zones c.in-Some.first.group in
    let seats = c.self.inside.seats.items in
    let its_feeders = option_to_list c.in-Some.first.check in
    let size = c.len-2.ensures in
    let told : c.len-2.result + 1 ≡ suc (size_of c.self.inside.valves) = omega (arith, size) in
    let seated = subst (λ (n : ℕ). AreSeatedOwned c.args.alias.slot those n seats c.seat_first.new.seats.items) told c.seat_first.ensures.seated in
    let here = subst (λ (i : Index). ComesFirstOwned zones i.ids i.numbers i.seats i.valves c.args.alias members feeders) (sym c.self.view_is) comes in
    let e = c.in-Some.ensures.all members feeders
    (comes_first_by zones c.args.alias members feeders (sym c.deref.ensures.value) (sym c.deref-2.ensures.value) (sym c.deref-3.ensures.value) refl here) in
    let same = some_same e.1.0 in
    let one : those ≡ members = ap (λ f. members_of zones f.group) same ∙ e.1.1.0 in
    let two : its_feeders ≡ feeders = ap (λ f. option_to_list f.check) same ∙ e.1.1.1 in
    let f = c.in-Some-own_valves_in.ensures.found c.in-Some-own_valves_in.many refl in
    let fed : take c.in-Some-own_valves_in.many c.own_valves_in.new.into ≡ valves_of c.args.self.now.seats members =
    f.1 ∙ ap (λ (l : List Seat). valves_of l those) c.deref-4.ensures.value ∙ ap (valves_of seats) one ∙ ap (λ (i : Index). valves_of i.seats members) c.self.view_is in
    let plains : c.in-Some.first.group.length - c.in-Some-own_valves_in.many ≡ plain_among c.args.self.now.seats members =
    (counts seats c.deref-4.result.now those c.own_valves_in.new.into c.in-Some-own_valves_in.many c.in-Some.first.group.length f
    c.deref-4.ensures.value g.1.1).1.1 ∙ ap (plain_among seats) one ∙ ap (λ (i : Index). plain_among i.seats members) c.self.view_is in (
      refl,
      record {
        rest = index_founded _ c.args.self.now c.seat_first.new.seats.items c.push_reserved.new.self.items c.note_those.new.members.items c.push_first.new.valves _ c.self.view_is (cc)
            ∙ ap (λ (l : List SetRef). record c.args.self.now { seats = c.seat_first.new.seats.items; refs = l; members = c.note_those.new.members.items; valves = c.push_first.new.valves })
            (c.push_reserved.ensures.items ∙ ap (λ (i : Index). i.refs ++ c.args.alias ∷ []) c.self.view_is)
            ∙ ap (λ (l : List SetRef). record c.args.self.now { seats = c.seat_first.new.seats.items; refs = c.args.self.now.refs ++ c.args.alias ∷ []; members = l; valves = c.push_first.new.valves })
            (c.note_those.ensures.noted ∙ ap (λ (z : ℕ). c.self.inside.members.items ++ refs_of z those) g.1.0
            ∙ ap (λ (l : List Slotted). c.self.inside.members.items ++ refs_of c.args.alias.zone l) one
            ∙ ap (λ (i : Index). i.members ++ refs_of c.args.alias.zone members) c.self.view_is);
        seated = subst (λ (l : List Slotted). AreSeatedOwned c.args.alias.slot l (suc (size_of c.args.self.now.valves)) c.args.self.now.seats c.seat_first.new.seats.items) one
            (subst (λ (i : Index). AreSeatedOwned c.args.alias.slot those (suc (size_of i.valves)) i.seats c.seat_first.new.seats.items) c.self.view_is seated);
        fed = λ net own fits. subst (λ (l : List ℕ). ValvesStandFor (with_group (valves_of c.args.self.now.seats members) l net)
            (with_two_counts (plain_among c.args.self.now.seats members) net.size own) c.push_first.new.valves) two
            (subst (λ (l : List ℕ). ValvesStandFor (with_group l its_feeders net) (with_two_counts (plain_among c.args.self.now.seats members) net.size own) c.push_first.new.valves) fed
            (subst (λ (n : ℕ). ValvesStandFor (with_group (take c.in-Some-own_valves_in.many c.own_valves_in.new.into) its_feeders net) (with_two_counts n net.size own) c.push_first.new.valves) plains
            (c.push_first.ensures.fits net own (subst (λ (i : Index). ValvesStandFor net own i.valves) (sym c.self.view_is) fits))));
      },
    )

pub returns-clause-adds : goal.returns-clause-adds
returns-clause-adds c =
    let zones = c.args.zones.now.zones in
    let group = c.in-Some.first.group in
    let g = c.in-Some.ensures.group c.in-Some.first refl in
    let those = members_of zones group in
    let seats = c.self.inside.seats.items in
    let feeders = option_to_list c.in-Some.first.check in
    let size = c.push_first.ensures.size in
    let links = c.push_first.ensures.links in
    let f = c.in-Some-own_valves_in.ensures.found c.in-Some-own_valves_in.many refl in
    let fed = ap (λ (l : List ℕ). length l) (f.1 ∙ ap (λ (l : List Seat). valves_of l those) c.deref-4.ensures.value) in
    let more = ap (λ (l : List SetRef). length l) c.push_reserved.ensures.items ∙ length-append c.self.inside.refs.items (c.args.alias ∷ []) in
    let noted = ap (λ (l : List SetRef). length l) c.note_those.ensures.noted
    ∙ length-append c.self.inside.members.items (refs_of group.zone those) in
    let long = length-map those (ref_in group.zone) in
    let below = members_few zones group c.args.zones.now.slots c.well_formed-2.ensures c.slots_within.ensures.within in
    let comes = comes_first_by zones c.args.alias those feeders c.deref.ensures.value c.deref-2.ensures.value c.deref-3.ensures.value refl
    (c.in-Some.ensures.found c.in-Some.first refl) in
    adds_group zones c.args.zones.now.slots c.args.delta.now _ _ _ c.self.view_is (record {
      ref = c.args.alias;
      members = those;
      feeders = feeders;
      come = c.requires.come;
      comes = comes;
      adds = record {
        refs = omega (arith, more);
        members = omega (arith, noted, long, below);
        valves = omega (arith, size);
        links = omega (arith, links, fed);
      };
    })
