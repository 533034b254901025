use Rattle.std.proofs.Common.{arith, ap, sym}
use mathlib.Core.Path.{subst}
use Rattle.health_valves.specs.Valves.{value_in}
use Rattle.health_index.specs.Index.{Index, StandsFor}
use Rattle.health_index.specs.Room.{HasRoom}
use Rattle.health_index.proofs.Reserved.{still_stands, still_whole}
use Rattle.health_index.proofs.index.HealthIndex.reserve.Goals as goal

pub invariant_of-self : goal.invariant_of-self
invariant_of-self c =
    let now = c.room_for_checks-now.ensures in
    let slots = c.room_for_slots-slots.ensures in
    still_whole _ _ (record {
      ids = now.ids;
      numbers = c.room_for_numbers-numbers.ensures.numbers;
      seen = now.seen;
      kin = c.room_for_kin-kin.ensures.kin;
      seats = slots.seats;
      refs = slots.refs;
      members = slots.members;
      values = λ valve. ap (λ v. value_in v valve) slots.values;
      size = slots.size;
      links = slots.links;
    }) slots.stays slots.meet slots.idle c.self.invariant

pub returns-clause-kept : goal.returns-clause-kept
returns-clause-kept c n room =
    let old = subst (λ (i : Index). HasRoom i n) (sym c.self.view_is) room in
    let now = c.room_for_checks-now.ensures in
    let before = c.room_for_checks-before.ensures in
    let slots = c.room_for_slots-slots.ensures in
    record {
      few = old.few;
      ids = omega (arith, old.ids, now.ids_kept);
      numbers = omega (arith, old.numbers, c.room_for_numbers-numbers.ensures.kept);
      seen = omega (arith, old.seen, now.seen_kept);
      ids_before = omega (arith, old.ids_before, before.ids_kept);
      seen_before = omega (arith, old.seen_before, before.seen_kept);
      kin = omega (arith, old.kin, c.room_for_kin-kin.ensures.kept);
      seats = omega (arith, old.seats, slots.seats_kept);
      refs = omega (arith, old.refs, slots.refs_kept);
      members = omega (arith, old.members, slots.members_kept);
      triggers = omega (arith, old.triggers, slots.blueprint_kept);
      links = omega (arith, old.links, slots.links_kept);
      valves = slots.valves_kept _ _ old.valves;
    }

pub returns-clause-stands : goal.returns-clause-stands
returns-clause-stands c zones checks reports is =
    let now = c.room_for_checks-now.ensures in
    let slots = c.room_for_slots-slots.ensures in
    still_stands _ _ (record {
      ids = now.ids;
      numbers = c.room_for_numbers-numbers.ensures.numbers;
      seen = now.seen;
      kin = c.room_for_kin-kin.ensures.kin;
      seats = slots.seats;
      refs = slots.refs;
      members = slots.members;
      values = λ valve. ap (λ v. value_in v valve) slots.values;
      size = slots.size;
      links = slots.links;
    }) slots.stays slots.meet slots.idle zones checks reports (subst (StandsFor zones checks reports) (sym c.self.view_is) is)

pub returns-clause-ready : goal.returns-clause-ready
returns-clause-ready c room =
    let known = subst (λ (i : Index). HasRoom i c.args.zones.now.slots) (sym c.self.view_is) room in
    let old = subst (HasRoom _) (sym c.slots.ensures) known in
    c.each_ok.ensures.each (c.room_for_checks-now.ensures.ready old.ids old.seen)
    (c.room_for_checks-before.ensures.ready old.ids_before old.seen_before)
    (c.room_for_numbers-numbers.ensures.ready old.numbers)
    (c.room_for_kin-kin.ensures.ready old.kin)
    (c.room_for_slots-slots.ensures.ready old.few old.seats old.refs old.members old.triggers
    old.links old.valves)
