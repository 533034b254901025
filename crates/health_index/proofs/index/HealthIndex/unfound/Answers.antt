use Rattle.std.proofs.Common.{◌≡◌, ◌≤◌, ◌+◌, suc, List, Some, length, arith, refl, ap, sym, ◌∙◌}
use mathlib.Core.Path.{subst}
use Rattle.health_index.proofs.ByOne.{index_regrouped}
use Rattle.health_index.proofs.Laid.{adds_by, adds_nothing}
use Rattle.health_index.proofs.Unfounded.{few_told, unfounded_by, whole_unfounded}
use Rattle.health_index.specs.Index.{Index, StandsFor}
use Rattle.health_index.specs.Unfounding.{AreSeatedWithout, LeavesLast, told_among}
use Rattle.health_standing.specs.declared.unfounding.LastAlias.{LastAlias}
use Rattle.health_planning.specs.Building.{TellSlot}
use Rattle.health_planning.specs.SetRefRecord.{SetRef}
use Rattle.health_planning.specs.declared.seats.Seat.{Seat}
use Rattle.health_valves.proofs.Cuts.{ends_now}
use Rattle.health_valves.specs.Laying.{links_of}
use Rattle.health_valves.specs.Valves.{ValvesStandFor, size_of, unfed_condition, with_condition, with_own}
use Rattle.health_index.proofs.index.HealthIndex.unfound.Goals as goal

some_same : {X : Type 0} {x y : X} → Some x ≡ Some y → x ≡ y
some_same e = cc

pub returns-in_default-clause-unfounded : goal.returns-in_default-clause-unfounded
returns-in_default-clause-unfounded c valve group leaves =
    let zones = c.args.zones.now.zones in
    let here = subst (λ (i : Index). LeavesLast zones i.seats i.valves c.args.set valve group) (sym c.self.view_is) leaves in
    let e = c.in_default.ensures.all valve group
    (subst (λ (l : List Seat). LeavesLast zones l c.self.inside.valves c.args.set valve group) (sym c.deref.ensures.value) here) in
    let no : ⊥ = cc in absurd no

pub unfeed-requires-2-clause-ready : goal.unfeed-requires-2-clause-ready
unfeed-requires-2-clause-ready c =
    let w = c.self.invariant in
    (_, _, c.unfeed.ensures.fits w.net w.own w.fits)

pub seat_without-requires-clause-noted : goal.seat_without-requires-clause-noted
seat_without-requires-clause-noted c other is =
    subst (λ (l : List SetRef). TellSlot l other) (sym c.deref-2.ensures.value)
    (c.self.invariant.given.groups other (λ none. omega (arith, is, none)))

noted_so : (refs : List SetRef) {seats now : List Seat} {noted : List SetRef} → noted ≡ told_among now refs → now ≡ seats
    → noted ≡ told_among seats refs
noted_so refs {seats} {now} {noted} is same = is ∙ ap (λ (l : List Seat). told_among l refs) same

pub invariant_of-self : goal.invariant_of-self
invariant_of-self c =
    let w = c.self.invariant in
    whole_unfounded _ w c.unfeed-2.new.self c.in-Some.last.valve c.in-Some.last.group c.seat_without.new.seats.items c.args.set.slot
    c.note_told.new.noted.items _ (noted_so c.self.inside.members.items c.note_told.ensures.noted c.deref-3.ensures.value)
    (c.unfeed-2.ensures.fits _ _ (c.unfeed.ensures.fits w.net w.own w.fits)) c.unfeed-2.ensures.idle c.seat_without.ensures.seated

pub returns-clause-stands : goal.returns-clause-stands
returns-clause-stands c before old reports stands left done =
    let zones = c.args.zones.now.zones in
    let was = subst (StandsFor before old reports) (sym c.self.view_is) stands in
    let leaves = subst (λ (l : List Seat). LeavesLast zones l c.self.inside.valves c.args.set c.in-Some.last.valve c.in-Some.last.group) c.deref.ensures.value
    (c.in-Some.ensures.found c.in-Some.last refl) in
    unfounded_by before zones old c.args.checks.now.checks reports _ c.args.delta.now was c.well_formed-2.ensures c.slots_apart.ensures c.requires.sound
    c.unfeed-2.new.self _ c.seat_without.new.seats.items c.note_told.new.noted.items c.args.set c.in-Some.last.valve c.in-Some.last.group
    (λ net own fits. c.unfeed-2.ensures.fits _ _ (c.unfeed.ensures.fits net own fits))
    (λ net own fits ends meet. c.unfeed-2.ensures.meet _ _ (c.unfeed.ensures.fits net own fits) (ends_now net own c.in-Some.last.valve ends)
    (c.unfeed.ensures.meet net own fits ends meet))
    c.unfeed-2.ensures.idle left c.requires.gone leaves c.seat_without.ensures.seated

pub returns-clause-unfounded : goal.returns-clause-unfounded
returns-clause-unfounded c valve group leaves =
    let zones = c.args.zones.now.zones in
    let here = subst (λ (i : Index). LeavesLast zones i.seats i.valves c.args.set valve group) (sym c.self.view_is) leaves in
    let one = some_same (c.in-Some.ensures.all valve group
    (subst (λ (l : List Seat). LeavesLast zones l c.self.inside.valves c.args.set valve group) (sym c.deref.ensures.value) here)) in (
      refl,
      record {
        rest = index_regrouped _ c.args.self.now c.seat_without.new.seats.items c.note_told.new.noted.items c.unfeed-2.new.self _ c.self.view_is (cc)
            ∙ ap (λ (l : List SetRef). record c.args.self.now { seats = c.seat_without.new.seats.items; members = l; valves = c.unfeed-2.new.self })
            (noted_so c.self.inside.members.items c.note_told.ensures.noted c.deref-3.ensures.value ∙ ap (λ (i : Index). told_among c.seat_without.new.seats.items i.members) c.self.view_is);
        seated = subst (λ (a : LastAlias). AreSeatedWithout c.args.set.slot (suc a.group) c.args.self.now.seats c.seat_without.new.seats.items) one
            (subst (λ (i : Index). AreSeatedWithout c.args.set.slot (suc c.in-Some.last.group) i.seats c.seat_without.new.seats.items) c.self.view_is c.seat_without.ensures.seated);
        unfed = λ net own fits. subst (λ (a : LastAlias). ValvesStandFor (with_condition a.group unfed_condition (with_condition a.valve unfed_condition net))
            (with_own a.group 0 (with_own a.valve 0 own)) c.unfeed-2.new.self) one
            (c.unfeed-2.ensures.fits _ _ (c.unfeed.ensures.fits net own (subst (λ (i : Index). ValvesStandFor net own i.valves) (sym c.self.view_is) fits)));
      },
    )

pub returns-in_default-clause-adds : goal.returns-in_default-clause-adds
returns-in_default-clause-adds c = adds_nothing _ _ _ refl

pub returns-clause-adds : goal.returns-clause-adds
returns-clause-adds c =
    let size = c.unfeed.ensures.size in
    let links = c.unfeed.ensures.links in
    let size_too = c.unfeed-2.ensures.size in
    let links_too = c.unfeed-2.ensures.links in
    let refs : length c.self.inside.refs.items ≤ length c.self.inside.refs.items + 1 = omega arith in
    let noted = ap (λ (l : List SetRef). length l) c.note_told.ensures.noted in
    let fewer = few_told c.deref-3.result.now c.self.inside.members.items in
    let members : length c.note_told.new.noted.items ≤ length c.self.inside.members.items + c.args.zones.now.slots = omega (arith, noted, fewer) in
    let valves : size_of c.unfeed-2.new.self ≤ size_of c.self.inside.valves + 2 = omega (arith, size, size_too) in
    let few : links_of c.unfeed-2.new.self ≤ links_of c.self.inside.valves + 2 = omega (arith, links, links_too) in
    adds_by _ _ _ _ c.self.view_is refs members valves few
