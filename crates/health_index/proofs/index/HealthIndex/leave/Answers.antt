use Rattle.std.proofs.Common.{◌≡◌, ◌-◌, ℕ, List, Some, arith, refl, ap, sym, ◌∙◌}
use mathlib.Core.Path.{subst}
use Rattle.health_index.proofs.ByOne.{index_regrouped, left_by, recounts, whole_left}
use Rattle.health_index.specs.Index.{Index, StandsFor}
use Rattle.health_index.specs.Regrouping.{IsSeatedIn, LeavesGroup}
use Rattle.health_planning.specs.Wired.{group_seat}
use Rattle.health_planning.specs.declared.seats.Seat.{Seat}
use Rattle.health_valves.specs.Valves.{ValvesStandFor, with_own}
use Rattle.health_index.proofs.Laid.{adds_none, adds_nothing, as_much_by}
use Rattle.health_index.proofs.index.HealthIndex.leave.Goals as goal

some_same : {X : Type 0} {x y : X} → Some x ≡ Some y → x ≡ y
some_same e = cc

pub returns-in_default-clause-left : goal.returns-in_default-clause-left
returns-in_default-clause-left c valve leaves =
    let zones = c.args.zones.now.zones in
    let here = subst (λ (i : Index). LeavesGroup zones i.seats i.valves c.args.set valve) (sym c.self.view_is) leaves in
    let e = c.in_default.ensures.all valve
    (subst (λ (l : List Seat). LeavesGroup zones l c.self.inside.valves c.args.set valve) (sym c.deref.ensures.value) here) in
    let no : ⊥ = cc in absurd no

pub overflow_sub-own : goal.overflow_sub-own
overflow_sub-own c =
    let w = c.self.invariant in
    let some = (c.in-Some.ensures.found c.in-Some.valve refl).some w.net w.own w.fits in
    let o = c.own-own.ensures w.net w.own w.fits in
    omega (arith, some, o)

pub set_count-requires-clause-small : goal.set_count-requires-clause-small
set_count-requires-clause-small c =
    let w = c.self.invariant in
    let within = (c.in-Some.ensures.found c.in-Some.valve refl).within in
    let size = w.fits.laid.size in
    let small = w.fits.counted.small c.in-Some.valve (omega (arith, within, size)) in
    let o = c.own-own.ensures w.net w.own w.fits in
    omega (arith, small, o)

pub invariant_of-self : goal.invariant_of-self
invariant_of-self c =
    let w = c.self.invariant in
    whole_left _ w c.set_count.new.self _ c.put_seat.new.seats.items c.args.set.slot _ (c.set_count.ensures.fits w.net w.own w.fits)
    c.set_count.ensures.idle c.put_seat.ensures.seated

pub returns-clause-stands : goal.returns-clause-stands
returns-clause-stands c before old reports stands left done =
    let zones = c.args.zones.now.zones in
    let was = subst (StandsFor before old reports) (sym c.self.view_is) stands in
    let leaves = subst (λ (l : List Seat). LeavesGroup zones l c.self.inside.valves c.args.set c.in-Some.valve) c.deref.ensures.value
    (c.in-Some.ensures.found c.in-Some.valve refl) in
    left_by before zones old c.args.checks.now.checks reports _ c.args.delta.now was c.well_formed-2.ensures c.slots_apart.ensures c.requires.sound
    c.set_count.new.self _ c.put_seat.new.seats.items c.args.set c.in-Some.valve (c.own-own.result - 1)
    c.set_count.ensures.fits c.set_count.ensures.meet c.set_count.ensures.idle left c.requires.gone leaves c.put_seat.ensures.seated
    (ap (λ (n : ℕ). n - 1) (c.own-own.ensures was.net was.own was.fits))

pub returns-clause-left : goal.returns-clause-left
returns-clause-left c valve leaves =
    let zones = c.args.zones.now.zones in
    let here = subst (λ (i : Index). LeavesGroup zones i.seats i.valves c.args.set valve) (sym c.self.view_is) leaves in
    let one = some_same (c.in-Some.ensures.all valve
    (subst (λ (l : List Seat). LeavesGroup zones l c.self.inside.valves c.args.set valve) (sym c.deref.ensures.value) here)) in (
      refl,
      record {
        rest = index_regrouped _ c.args.self.now c.put_seat.new.seats.items c.self.inside.members.items c.set_count.new.self _ c.self.view_is (cc)
            ∙ ap (λ (i : Index). record c.args.self.now { seats = c.put_seat.new.seats.items; members = i.members; valves = c.set_count.new.self }) c.self.view_is;
        seated = subst (λ (i : Index). IsSeatedIn c.args.set.slot 0 i.seats c.put_seat.new.seats.items) c.self.view_is c.put_seat.ensures.seated;
        counts = recounts valve (c.own-own.result - 1) (λ n. n - 1) c.args.self.now.valves c.set_count.new.self
            (λ net own fits. subst (λ (v : ℕ). ValvesStandFor net (with_own v (c.own-own.result - 1) own) c.set_count.new.self) one
            (c.set_count.ensures.fits net own (subst (λ (i : Index). ValvesStandFor net own i.valves) (sym c.self.view_is) fits)))
            (λ net own fits. ap (λ (n : ℕ). n - 1)
            (c.own-own.ensures net own (subst (λ (i : Index). ValvesStandFor net own i.valves) (sym c.self.view_is) fits) ∙ ap own one));
      },
    )

pub returns-clause-group : goal.returns-clause-group
returns-clause-group c done none =
    let told = (c.in-Some.ensures.found c.in-Some.valve refl).seat in
    let bare = ap (λ (i : Index). group_seat i.seats c.args.set.slot) c.self.view_is ∙ none in
    let its = ap (λ (l : List Seat). group_seat l c.args.set.slot) c.deref.ensures.value ∙ bare in
    omega (arith, told, its)

pub returns-in_default-clause-adds : goal.returns-in_default-clause-adds
returns-in_default-clause-adds c = adds_nothing _ _ _ refl

pub returns-clause-adds : goal.returns-clause-adds
returns-clause-adds c =
    adds_none _ _ _ (as_much_by _ _ _ c.self.view_is refl refl c.set_count.ensures.size c.set_count.ensures.links)
