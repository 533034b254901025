use Rattle.std.proofs.Common.{◌≡◌, ◌≤◌, ◌<◌, ◌+◌, ◌-◌, ◌++◌, ◌∷◌, [], ℕ, suc, List, Some, length, length-append, arith, refl, ap, sym, ◌∙◌}
use mathlib.Core.Path.{subst}
use Rattle.health_index.proofs.ByOne.{index_regrouped, joined_by, recounts, whole_joined}
use Rattle.health_index.specs.Index.{Index, StandsFor}
use Rattle.health_index.specs.Regrouping.{IsSeatedIn, JoinsGroup, TellNoOther}
use Rattle.health_planning.proofs.ListedOnce.{slot_below}
use Rattle.health_planning.proofs.Members.{one_named}
use Rattle.health_planning.specs.SetRefRecord.{SetRef}
use Rattle.health_planning.specs.Wired.{is_watched}
use Rattle.health_planning.specs.declared.seats.Seat.{Seat}
use Rattle.health_valves.specs.Valves.{ValvesStandFor, size_of, with_own}
use Rattle.health_index.proofs.Laid.{adds_by, adds_nothing}
use Rattle.health_valves.specs.Laying.{links_of}
use Rattle.health_index.proofs.index.HealthIndex.join.Goals as goal

some_same : {X : Type 0} {x y : X} → Some x ≡ Some y → x ≡ y
some_same e = cc

pub returns-in_default-clause-joined : goal.returns-in_default-clause-joined
returns-in_default-clause-joined c named valve joins names alike few =
    let zones = c.args.zones.now.zones in
    let here = subst (λ (i : Index). JoinsGroup zones i.seats i.valves c.args.set valve) (sym c.self.view_is) joins in
    let agree = subst (λ (i : Index). TellNoOther zones i.seats c.args.set.zone named.name named.rtype valve) (sym c.self.view_is) alike in
    let e = c.in_default.ensures.all valve named
    (subst (λ (l : List Seat). JoinsGroup zones l c.self.inside.valves c.args.set valve) (sym c.deref.ensures.value) here) names
    (subst (λ (l : List Seat). TellNoOther zones l c.args.set.zone named.name named.rtype valve) (sym c.deref.ensures.value) agree) in
    let no : ⊥ = cc in absurd no

pub returns-then-len-capacity-clause-joined : goal.returns-then-len-capacity-clause-joined
returns-then-len-capacity-clause-joined c named valve joins names alike few =
    let below = subst (λ (i : Index). length i.members < i.space.members) (sym c.self.view_is) few in
    let full = c.if-len-capacity.true in
    let long = c.len.ensures in
    let room = c.capacity.ensures in
    let its = c.self.inside.members.ok.0 in
    absurd (omega (arith, below, full, long, room, its))

pub overflow_sub-valve : goal.overflow_sub-valve
overflow_sub-valve c = (c.in-Some.ensures.found c.in-Some.told refl).0

pub own-own-requires-clause-valve : goal.own-own-requires-clause-valve
own-own-requires-clause-valve c = (c.in-Some.ensures.found c.in-Some.told refl).1.within

pub overflow_add-own : goal.overflow_add-own
overflow_add-own c =
    let w = c.self.invariant in
    let few = (c.in-Some.ensures.found c.in-Some.told refl).1.few w.net w.own w.fits in
    let o = c.own-own.ensures w.net w.own w.fits in
    omega (arith, few, o)

pub set_count-requires-clause-valve : goal.set_count-requires-clause-valve
set_count-requires-clause-valve c = (c.in-Some.ensures.found c.in-Some.told refl).1.within

pub set_count-requires-clause-small : goal.set_count-requires-clause-small
set_count-requires-clause-small c =
    let w = c.self.invariant in
    let few = (c.in-Some.ensures.found c.in-Some.told refl).1.few w.net w.own w.fits in
    let o = c.own-own.ensures w.net w.own w.fits in
    omega (arith, few, o)

pub seat_in-requires-clause-slot : goal.seat_in-requires-clause-slot
seat_in-requires-clause-slot c =
    let j = (c.in-Some.ensures.found c.in-Some.told refl).1 in
    slot_below c.args.zones.now.zones c.args.zones.now.slots c.args.set j.set c.slots_within.ensures.within j.names

pub invariant_of-self-2 : goal.invariant_of-self-2
invariant_of-self-2 c =
    let w = c.self.invariant in
    whole_joined _ w c.set_count.new.self _ c.seat_in.new.seats.items c.args.set c.in-Some.told c.push_reserved.new.self.items _
    (c.set_count.ensures.fits w.net w.own w.fits) c.set_count.ensures.idle c.seat_in.ensures.seated c.push_reserved.ensures.items

pub returns-clause-stands : goal.returns-clause-stands
returns-clause-stands c before old reports stands left done =
    let zones = c.args.zones.now.zones in
    let was = subst (StandsFor before old reports) (sym c.self.view_is) stands in
    let found = c.in-Some.ensures.found c.in-Some.told refl in
    let first = found.0 in
    let one : c.in-Some.told ≡ suc (c.in-Some.told - 1) = omega (arith, first) in
    let joins = subst (λ (l : List Seat). JoinsGroup zones l c.self.inside.valves c.args.set (c.in-Some.told - 1)) c.deref.ensures.value found.1 in
    joined_by before zones old c.args.checks.now.checks reports _ c.args.delta.now was c.well_formed-2.ensures c.slots_apart.ensures c.requires.sound
    c.set_count.new.self _ c.seat_in.new.seats.items c.args.set (c.in-Some.told - 1) (c.own-own.result + 1)
    c.set_count.ensures.fits c.set_count.ensures.meet c.set_count.ensures.idle left c.requires.come joins
    (subst (λ (n : ℕ). IsSeatedIn c.args.set.slot n c.self.inside.seats.items c.seat_in.new.seats.items) one c.seat_in.ensures.seated)
    (ap (λ (n : ℕ). n + 1) (c.own-own.ensures was.net was.own was.fits)) c.push_reserved.new.self.items

pub returns-clause-joined : goal.returns-clause-joined
returns-clause-joined c named valve joins names alike few =
    let zones = c.args.zones.now.zones in
    let here = subst (λ (i : Index). JoinsGroup zones i.seats i.valves c.args.set valve) (sym c.self.view_is) joins in
    let agree = subst (λ (i : Index). TellNoOther zones i.seats c.args.set.zone named.name named.rtype valve) (sym c.self.view_is) alike in
    let told = some_same (c.in-Some.ensures.all valve named
    (subst (λ (l : List Seat). JoinsGroup zones l c.self.inside.valves c.args.set valve) (sym c.deref.ensures.value) here) names
    (subst (λ (l : List Seat). TellNoOther zones l c.args.set.zone named.name named.rtype valve) (sym c.deref.ensures.value) agree)) in
    let one : c.in-Some.told - 1 ≡ valve = omega (arith, told) in
    let up : c.in-Some.told ≡ suc valve = omega (arith, told) in (
      refl,
      record {
        rest = index_regrouped _ c.args.self.now c.seat_in.new.seats.items c.push_reserved.new.self.items c.set_count.new.self _ c.self.view_is (cc)
            ∙ ap (λ (l : List SetRef). record c.args.self.now { seats = c.seat_in.new.seats.items; members = l; valves = c.set_count.new.self })
            (c.push_reserved.ensures.items ∙ ap (λ (i : Index). i.members ++ c.args.set ∷ []) c.self.view_is);
        seated = subst (λ (n : ℕ). IsSeatedIn c.args.set.slot n c.args.self.now.seats c.seat_in.new.seats.items) up
            (subst (λ (i : Index). IsSeatedIn c.args.set.slot c.in-Some.told i.seats c.seat_in.new.seats.items) c.self.view_is c.seat_in.ensures.seated);
        counts = recounts valve (c.own-own.result + 1) (λ n. n + 1) c.args.self.now.valves c.set_count.new.self
            (λ net own fits. subst (λ (v : ℕ). ValvesStandFor net (with_own v (c.own-own.result + 1) own) c.set_count.new.self) one
            (c.set_count.ensures.fits net own (subst (λ (i : Index). ValvesStandFor net own i.valves) (sym c.self.view_is) fits)))
            (λ net own fits. ap (λ (n : ℕ). n + 1)
            (c.own-own.ensures net own (subst (λ (i : Index). ValvesStandFor net own i.valves) (sym c.self.view_is) fits) ∙ ap own one));
      },
    )

pub returns-clause-off : goal.returns-clause-off
returns-clause-off c done named names =
    let zones = c.args.zones.now.zones in
    let j = (c.in-Some.ensures.found c.in-Some.told refl).1 in
    ap is_watched (one_named zones c.args.set named j.set c.well_formed-2.ensures names j.names) ∙ j.off

pub returns-in_default-clause-adds : goal.returns-in_default-clause-adds
returns-in_default-clause-adds c = adds_nothing _ _ _ c.self.view_is

pub returns-then-len-capacity-clause-adds : goal.returns-then-len-capacity-clause-adds
returns-then-len-capacity-clause-adds c = adds_nothing _ _ _ c.self.view_is

pub returns-clause-adds : goal.returns-clause-adds
returns-clause-adds c =
    let zones = c.args.zones.now.zones in
    let size = c.set_count.ensures.size in
    let links = c.set_count.ensures.links in
    let j = (c.in-Some.ensures.found c.in-Some.told refl).1 in
    let below = slot_below zones c.args.zones.now.slots c.args.set j.set c.slots_within.ensures.within j.names in
    let more = ap (λ (l : List SetRef). length l) c.push_reserved.ensures.items ∙ length-append c.self.inside.members.items (c.args.set ∷ []) in
    let refs : length c.self.inside.refs.items ≤ length c.self.inside.refs.items + 1 = omega arith in
    let members : length c.push_reserved.new.self.items ≤ length c.self.inside.members.items + c.args.zones.now.slots = omega (arith, below, more) in
    let valves : size_of c.set_count.new.self ≤ size_of c.self.inside.valves + 2 = omega (arith, size) in
    let few : links_of c.set_count.new.self ≤ links_of c.self.inside.valves + 2 = omega (arith, links) in
    adds_by _ _ _ _ c.self.view_is refs members valves few
