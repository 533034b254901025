use Rattle.std.proofs.Common.{◌≡◌, ◌≤◌, ◌+◌, ℕ, List, Some, length, arith, refl, ap, sym, ◌∙◌}
use mathlib.Core.Path.{subst}
use Rattle.health_index.proofs.ByOne.{index_regrouped}
use Rattle.health_index.proofs.Unfounded.{unfounded_not_unled}
use Rattle.health_index.proofs.Unled.{unled_by, whole_unled}
use Rattle.health_index.specs.Index.{Index, StandsFor}
use Rattle.health_index.specs.Regrouping.{IsSeatedIn}
use Rattle.health_index.specs.Unfounding.{LeavesLast}
use Rattle.health_index.specs.Unleading.{LeavesValve}
use Rattle.health_planning.specs.declared.seats.Seat.{Seat}
use Rattle.health_valves.specs.Valves.{ValvesStandFor, size_of, unfed_condition, with_condition, with_own}
use Rattle.health_index.proofs.Laid.{adds_by, adds_nothing}
use Rattle.health_valves.specs.Laying.{links_of}
use Rattle.health_index.proofs.index.HealthIndex.unlead.Goals as goal

some_same : {X : Type 0} {x y : X} → Some x ≡ Some y → x ≡ y
some_same e = cc

pub returns-in_default-clause-unled : goal.returns-in_default-clause-unled
returns-in_default-clause-unled c valve leaves =
    let zones = c.args.zones.now.zones in
    let here = subst (λ (i : Index). LeavesValve zones i.seats i.valves c.args.set valve) (sym c.self.view_is) leaves in
    let e = c.in_default.ensures.all valve
    (subst (λ (l : List Seat). LeavesValve zones l c.self.inside.valves c.args.set valve) (sym c.deref.ensures.value) here) in
    let no : ⊥ = cc in absurd no

pub invariant_of-self : goal.invariant_of-self
invariant_of-self c =
    let w = c.self.invariant in
    whole_unled _ w c.unfeed.new.self c.in-Some.valve c.put_seat.new.seats.items c.args.set.slot _ (c.unfeed.ensures.fits w.net w.own w.fits)
    c.unfeed.ensures.idle c.put_seat.ensures.seated

pub returns-clause-stands : goal.returns-clause-stands
returns-clause-stands c before old reports stands left done =
    let zones = c.args.zones.now.zones in
    let was = subst (StandsFor before old reports) (sym c.self.view_is) stands in
    let leaves = subst (λ (l : List Seat). LeavesValve zones l c.self.inside.valves c.args.set c.in-Some.valve) c.deref.ensures.value
    (c.in-Some.ensures.found c.in-Some.valve refl) in
    unled_by before zones old c.args.checks.now.checks reports _ c.args.delta.now was c.well_formed-2.ensures c.slots_apart.ensures c.requires.sound
    c.unfeed.new.self _ c.put_seat.new.seats.items c.args.set c.in-Some.valve
    c.unfeed.ensures.fits c.unfeed.ensures.meet c.unfeed.ensures.idle left c.requires.gone leaves c.put_seat.ensures.seated

pub returns-clause-unled : goal.returns-clause-unled
returns-clause-unled c valve leaves =
    let zones = c.args.zones.now.zones in
    let here = subst (λ (i : Index). LeavesValve zones i.seats i.valves c.args.set valve) (sym c.self.view_is) leaves in
    let one = some_same (c.in-Some.ensures.all valve
    (subst (λ (l : List Seat). LeavesValve zones l c.self.inside.valves c.args.set valve) (sym c.deref.ensures.value) here)) in (
      refl,
      record {
        rest = index_regrouped _ c.args.self.now c.put_seat.new.seats.items c.self.inside.members.items c.unfeed.new.self _ c.self.view_is (cc)
            ∙ ap (λ (i : Index). record c.args.self.now { seats = c.put_seat.new.seats.items; members = i.members; valves = c.unfeed.new.self }) c.self.view_is;
        seated = subst (λ (i : Index). IsSeatedIn c.args.set.slot 0 i.seats c.put_seat.new.seats.items) c.self.view_is c.put_seat.ensures.seated;
        unfed = λ net own fits. subst (λ (v : ℕ). ValvesStandFor (with_condition v unfed_condition net) (with_own v 0 own) c.unfeed.new.self) one
            (c.unfeed.ensures.fits net own (subst (λ (i : Index). ValvesStandFor net own i.valves) (sym c.self.view_is) fits));
      },
    )

pub returns-in_default-clause-adds : goal.returns-in_default-clause-adds
returns-in_default-clause-adds c = adds_nothing _ _ _ refl

pub returns-clause-adds : goal.returns-clause-adds
returns-clause-adds c =
    let size = c.unfeed.ensures.size in
    let links = c.unfeed.ensures.links in
    let refs : length c.self.inside.refs.items ≤ length c.self.inside.refs.items + 1 = omega arith in
    let members : length c.self.inside.members.items ≤ length c.self.inside.members.items + c.args.zones.now.slots = omega arith in
    let valves : size_of c.unfeed.new.self ≤ size_of c.self.inside.valves + 2 = omega (arith, size) in
    let few : links_of c.unfeed.new.self ≤ links_of c.self.inside.valves + 2 = omega (arith, links) in
    adds_by _ _ _ _ c.self.view_is refs members valves few

pub returns-clause-another : goal.returns-clause-another
returns-clause-another c done valve group last =
    let zones = c.args.zones.now.zones in
    let w = c.self.invariant in
    let leaves = subst (λ (l : List Seat). LeavesValve zones l c.self.inside.valves c.args.set c.in-Some.valve) c.deref.ensures.value
    (c.in-Some.ensures.found c.in-Some.valve refl) in
    unfounded_not_unled zones c.self.inside.seats.items c.self.inside.valves c.args.set valve c.in-Some.valve group w.net w.own w.fits leaves
    (subst (λ (i : Index). LeavesLast zones i.seats i.valves c.args.set valve group) (sym c.self.view_is) last)
