use Rattle.std.proofs.Common.{◌≡◌, ◌≤◌, ◌<◌, ◌+◌, ◌*◌, ◌++◌, ◌∷◌, [], ℕ, suc, List, Some, length, length-append, arith, refl, ap, sym, ◌∙◌}
use Rattle.std.proofs.lemmas.Bool.{false≢true}
use mathlib.Core.Path.{subst}
use Rattle.health_index.proofs.Led.{comes_by, index_led, led_by, whole_led}
use Rattle.health_index.specs.Index.{Index, StandsFor}
use Rattle.health_index.specs.Leading.{ComesToLead, IsSeatedOwn, listed_in}
use Rattle.health_index.specs.Room.{HasRoom, HasValveRoom}
use Rattle.health_planning.proofs.ListedOnce.{slot_below}
use Rattle.health_planning.specs.SetRefRecord.{SetRef}
use Rattle.health_valves.specs.Laying.{HasRoomFor, HasRoomForOne, links_of}
use Rattle.health_valves.specs.Valves.{ValvesStandFor, fed_condition, size_of, with_one_more, with_own}
use Rattle.health_valves.specs.declared.valves.Valves.{Valves}
use Rattle.health_index.proofs.Laid.{adds_by, adds_nothing}
use Rattle.health_index.proofs.index.HealthIndex.lead_in.Goals as goal

some_same : {X : Type 0} {x y : X} → Some x ≡ Some y → x ≡ y
some_same e = cc

pub returns-in_default-clause-led : goal.returns-in_default-clause-led
returns-in_default-clause-led c feeders comes room =
    let zones = c.args.zones.now.zones in
    let here = subst (λ (i : Index). ComesToLead zones i.ids i.numbers i.seats i.valves c.args.set feeders) (sym c.self.view_is) comes in
    let e = c.in_default.ensures.all feeders
    (comes_by zones c.args.set feeders (sym c.deref.ensures.value) (sym c.deref-2.ensures.value) (sym c.deref-3.ensures.value) refl here) in
    let is = e.1.0 in
    let no : ⊥ = cc in absurd no

pub returns-then-len-capacity-clause-led : goal.returns-then-len-capacity-clause-led
returns-then-len-capacity-clause-led c feeders comes room =
    let below = subst (λ (i : Index). length i.refs < i.space.refs) (sym c.self.view_is) room.refs in
    let full = c.if-len-capacity.true in
    let long = c.len.ensures in
    let cap = c.capacity.ensures in
    let its = c.self.inside.refs.ok.0 in
    absurd (omega (arith, below, full, long, cap, its))

pub returns-then-not-has_room_for_one-clause-led : goal.returns-then-not-has_room_for_one-clause-led
returns-then-not-has_room_for_one-clause-led c feeders comes room =
    let slots = c.args.zones.now.slots in
    let here = subst (λ (i : Index). HasValveRoom i.valves slots) (sym c.self.view_is) room.valves in
    absurd (false≢true (sym c.if-not-has_room_for_one.true
    ∙ c.has_room_for_one.ensures.1 (subst (HasValveRoom c.self.inside.valves) (sym c.slots.ensures) here)))

pub push_alias-requires-clause-feeders : goal.push_alias-requires-clause-feeders
push_alias-requires-clause-feeders c = (c.in-Some.ensures.found c.in-Some.feeders refl).within

room_for_one : (valves : Valves) (slots : ℕ) → HasRoomFor valves (slots * 2 + 200) (slots * 3 + 51200)
    → HasValveRoom valves slots → HasRoomForOne valves 2
room_for_one valves slots room more =
    let below = more.valves_below in
    let rows = room.rows in
    let lists = room.lists in
    let values = room.values in
    let counts = room.counts in
    let owns = room.owns in
    let cone = room.cone in
    let marks = room.marks in
    let feeds = room.feeds in
    let links = more.links_below in
    record {
      valve = record {
        rows = omega (arith, below, rows);
        feeds = omega arith;
        lists = omega (arith, below, lists);
        values = omega (arith, below, values);
        counts = omega (arith, below, counts);
        owns = omega (arith, below, owns);
        cone = omega (arith, below, cone);
        marks = omega (arith, below, marks);
      };
      links_room = omega (arith, feeds, links);
    }

pub push_alias-requires-clause-room : goal.push_alias-requires-clause-room
push_alias-requires-clause-room c =
    let slots = c.args.zones.now.slots in
    let room = subst (λ (i : Index). HasRoom i slots) (sym c.self.view_is) c.requires.room in
    let more = subst (HasValveRoom c.self.inside.valves) c.slots.ensures (c.has_room_for_one.ensures.0 c.if-not-has_room_for_one.false) in
    room_for_one c.self.inside.valves slots room.valves more

pub own_in-requires-clause-slot : goal.own_in-requires-clause-slot
own_in-requires-clause-slot c =
    let comes = c.in-Some.ensures.found c.in-Some.feeders refl in
    slot_below c.args.zones.now.zones c.args.zones.now.slots c.args.set comes.set c.slots_within.ensures.within comes.names

pub invariant_of-self-2 : goal.invariant_of-self-2
invariant_of-self-2 c =
    let w = c.self.invariant in
    let size = c.len-2.ensures in
    let told : c.len-2.result + 1 ≡ suc (size_of c.self.inside.valves) = omega (arith, size) in
    let seated = subst (λ (n : ℕ). IsSeatedOwn c.args.set.slot n c.self.inside.seats.items c.own_in.new.seats.items) told c.own_in.ensures.seated in
    let comes = c.in-Some.ensures.found c.in-Some.feeders refl in
    whole_led _ w c.push_alias.new.valves (listed_in c.in-Some.feeders) c.own_in.new.seats.items c.args.set c.push_reserved.new.self.items _ comes.many
    (c.push_alias.ensures.fits w.net w.own w.fits) c.push_alias.ensures.idle seated c.push_reserved.ensures.items

pub returns-clause-stands : goal.returns-clause-stands
returns-clause-stands c before old reports stands left done =
    let zones = c.args.zones.now.zones in
    let size = c.len-2.ensures in
    let told : c.len-2.result + 1 ≡ suc (size_of c.self.inside.valves) = omega (arith, size) in
    let seated = subst (λ (n : ℕ). IsSeatedOwn c.args.set.slot n c.self.inside.seats.items c.own_in.new.seats.items) told c.own_in.ensures.seated in
    let was = subst (StandsFor before old reports) (sym c.self.view_is) stands in
    let comes = comes_by zones c.args.set (listed_in c.in-Some.feeders) c.deref.ensures.value c.deref-2.ensures.value c.deref-3.ensures.value refl
    (c.in-Some.ensures.found c.in-Some.feeders refl) in
    led_by before zones old c.args.checks.now.checks reports _ c.args.delta.now was c.well_formed-2.ensures c.slots_apart.ensures c.requires.sound
    c.paths_end.ensures c.push_alias.new.valves _ c.own_in.new.seats.items c.push_reserved.new.self.items c.args.set (listed_in c.in-Some.feeders)
    c.push_alias.ensures.fits c.push_alias.ensures.meet c.push_alias.ensures.idle left c.requires.come comes seated c.push_reserved.ensures.items

pub returns-clause-led : goal.returns-clause-led
returns-clause-led c feeders comes room =
    let zones = c.args.zones.now.zones in
    let size = c.len-2.ensures in
    let told : c.len-2.result + 1 ≡ suc (size_of c.self.inside.valves) = omega (arith, size) in
    let seated = subst (λ (n : ℕ). IsSeatedOwn c.args.set.slot n c.self.inside.seats.items c.own_in.new.seats.items) told c.own_in.ensures.seated in
    let here = subst (λ (i : Index). ComesToLead zones i.ids i.numbers i.seats i.valves c.args.set feeders) (sym c.self.view_is) comes in
    let e = c.in-Some.ensures.all feeders
    (comes_by zones c.args.set feeders (sym c.deref.ensures.value) (sym c.deref-2.ensures.value) (sym c.deref-3.ensures.value) refl here) in
    let one : listed_in c.in-Some.feeders ≡ feeders = ap listed_in (some_same e.1.0) ∙ e.1.1 in (
      refl,
      record {
        rest = index_led _ c.args.self.now c.own_in.new.seats.items c.push_reserved.new.self.items c.push_alias.new.valves _ c.self.view_is (cc)
            ∙ ap (λ (l : List SetRef). record c.args.self.now { seats = c.own_in.new.seats.items; refs = l; valves = c.push_alias.new.valves })
            (c.push_reserved.ensures.items ∙ ap (λ (i : Index). i.refs ++ c.args.set ∷ []) c.self.view_is);
        seated = subst (λ (i : Index). IsSeatedOwn c.args.set.slot (suc (size_of i.valves)) i.seats c.own_in.new.seats.items) c.self.view_is seated;
        fed = λ net own fits. subst (λ (l : List ℕ). ValvesStandFor (with_one_more (fed_condition l) net) (with_own net.size 0 own) c.push_alias.new.valves) one
            (c.push_alias.ensures.fits net own (subst (λ (i : Index). ValvesStandFor net own i.valves) (sym c.self.view_is) fits));
      },
    )

pub returns-clause-comes : goal.returns-clause-comes
returns-clause-comes c done =
    let zones = c.args.zones.now.zones in
    let comes = comes_by zones c.args.set (listed_in c.in-Some.feeders) c.deref.ensures.value c.deref-2.ensures.value c.deref-3.ensures.value refl
    (c.in-Some.ensures.found c.in-Some.feeders refl) in
    (listed_in c.in-Some.feeders, subst (λ (i : Index). ComesToLead zones i.ids i.numbers i.seats i.valves c.args.set (listed_in c.in-Some.feeders)) c.self.view_is comes)

pub returns-in_default-clause-adds : goal.returns-in_default-clause-adds
returns-in_default-clause-adds c = adds_nothing _ _ _ c.self.view_is

pub returns-then-len-capacity-clause-adds : goal.returns-then-len-capacity-clause-adds
returns-then-len-capacity-clause-adds c = adds_nothing _ _ _ c.self.view_is

pub returns-then-not-has_room_for_one-clause-adds : goal.returns-then-not-has_room_for_one-clause-adds
returns-then-not-has_room_for_one-clause-adds c = adds_nothing _ _ _ c.self.view_is

pub returns-clause-adds : goal.returns-clause-adds
returns-clause-adds c =
    let size = c.push_alias.ensures.size in
    let links = c.push_alias.ensures.links in
    let more = ap (λ (l : List SetRef). length l) c.push_reserved.ensures.items ∙ length-append c.self.inside.refs.items (c.args.set ∷ []) in
    let refs : length c.push_reserved.new.self.items ≤ length c.self.inside.refs.items + 1 = omega (arith, more) in
    let members : length c.self.inside.members.items ≤ length c.self.inside.members.items + c.args.zones.now.slots = omega arith in
    let valves : size_of c.push_alias.new.valves ≤ size_of c.self.inside.valves + 2 = omega (arith, size) in
    let few : links_of c.push_alias.new.valves ≤ links_of c.self.inside.valves + 2 = omega (arith, links) in
    adds_by _ _ _ _ c.self.view_is refs members valves few
