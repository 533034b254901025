use Rattle.std.proofs.Common.{◌<◌, ℕ, List, length, arith, ap, refl, sym, ◌∙◌, inl, inr}
use Rattle.std.proofs.lemmas.Bool.{cases_eq}
use mathlib.Core.Path.{subst}
use Rattle.policy_select.proofs.Members.{one_named}
use Rattle.policy_select.specs.Changes.{ref_in}
use Rattle.policy_select.specs.Looking.{Watches}
use Rattle.policy_select.specs.SetRefRecord.{SetRef}
use Rattle.policy_select.specs.Telling.{watch_of}
use Rattle.policy_select.specs.Zones.{placed_in}
use Rattle.zone_model.specs.Slotted.{IsHere}
use Rattle.health_planning.specs.Wired.{check_seat, group_seat, own_part, set_seat}
use Rattle.health_planning.specs.declared.seats.Seat.{Seat}
use Rattle.health_planning.proofs.ListedOnce.{check_beside, check_here, one_ref, seat_beside, seat_here, slot_below}
use Rattle.health_planning.proofs.Told.{group_kept, own_none, tells_on}
use Rattle.health_planning.proofs.seating.seat_check.Goals as goal

pub returns-in_default-clause-told : goal.returns-in_default-clause-told
returns-in_default-clause-told c p here same =
    let none = subst (Watches c.args.zones.now.zones c.args.set) c.in_default.is c.watch.ensures in
    absurd (none p.set (subst (λ (n : ℕ). IsHere (placed_in c.args.zones.now.zones c.args.set.zone) (record { slot = n; set = p.set })) same here))

pub seat_for-only-requires-clause-named : goal.seat_for-only-requires-clause-named
seat_for-only-requires-clause-named c =
    let w = subst (Watches c.args.zones.now.zones c.args.set) c.in-Some.is c.watch.ensures in
    (w.0, w.2)

pub seat_for-only-requires-clause-there : goal.seat_for-only-requires-clause-there
seat_for-only-requires-clause-there c id is =
    let w = subst (Watches c.args.zones.now.zones c.args.set) c.in-Some.is c.watch.ensures in
    c.requires.there c.args.set w.0 id w.1 (ap (λ x. x.check) (sym w.2) ∙ is)

pub index_mut-requires : goal.index_mut-requires
index_mut-requires c =
    let w = subst (Watches c.args.zones.now.zones c.args.set) c.in-Some.is c.watch.ensures in
    let b = slot_below c.args.zones.now.zones c.args.zones.now.slots c.args.set w.0 c.slots_within.ensures.within w.1 in
    let slots = c.requires.slots in
    omega arith

pub seat_at-seat-requires : goal.seat_at-seat-requires
seat_at-seat-requires c =
    let w = subst (Watches c.args.zones.now.zones c.args.set) c.in-Some.is c.watch.ensures in
    let b = slot_below c.args.zones.now.zones c.args.zones.now.slots c.args.set w.0 c.slots_within.ensures.within w.1 in
    let slots = c.requires.slots in
    let long = ap length c.deref.ensures.value in
    omega arith

pub returns-clause-told : goal.returns-clause-told
returns-clause-told c p here same =
    let zones = c.args.zones.now.zones in
    let w = subst (Watches zones c.args.set) c.in-Some.is c.watch.ensures in
    let b = slot_below zones c.args.zones.now.slots c.args.set w.0 c.slots_within.ensures.within w.1 in
    let slots = c.requires.slots in
    let within : c.args.set.slot < length c.args.seats.now.items = omega arith in
    let names = subst (λ (n : ℕ). IsHere (placed_in zones c.args.set.zone) (record { slot = n; set = p.set })) same here in
    let named = one_named zones c.args.set w.0 p.set c.well_formed-2.ensures w.1 names in
    let s = c.seat_for-only.ensures in
    let is = w.2 ∙ ap watch_of named in
    let seat : Seat = record { set = c.seat_for-only.result.set; group = c.seat_at-seat.result.group; check = c.seat_for-only.result.check } in
    record {
      plain = λ off. ap (set_seat _) same ∙ seat_here c.args.seats.now.items c.args.set.slot seat within ∙ s.plain p.set is off;
      alone = λ id alone. let a = s.alone p.set id is alone in (
        ap (check_seat _) same ∙ check_here c.args.seats.now.items c.args.set.slot seat within ∙ a.0,
        ap (set_seat _) same ∙ seat_here c.args.seats.now.items c.args.set.slot seat within ∙ a.1,
      );
    }

pub returns-clause-others : goal.returns-clause-others
returns-clause-others c slot apart =
    let seat : Seat = record { set = c.seat_for-only.result.set; group = c.seat_at-seat.result.group; check = c.seat_for-only.result.check } in (
      seat_beside c.args.seats.now.items c.args.set.slot slot seat apart,
      check_beside c.args.seats.now.items c.args.set.slot slot seat apart,
    )

pub returns-clause-stays : goal.returns-clause-stays
returns-clause-stays c p zone here told = elim (cases_eq p.slot c.args.set.slot) [
  | inl same ↦
      let zones = c.args.zones.now.zones in
      let w = subst (Watches zones c.args.set) c.in-Some.is c.watch.ensures in
      let ref = one_ref zones (ref_in zone p) c.args.set p.set w.0 c.slots_apart.ensures here w.1 same in
      returns-clause-told c p (subst (λ (s : SetRef). IsHere (placed_in zones s.zone) p) ref here) same
  | inr apart ↦
      tells_on c.args.ids.now c.args.numbers.now c.args.seats.now.items _ p (returns-clause-others c p.slot apart) told
]

pub returns-in_default-clause-each : goal.returns-in_default-clause-each
returns-in_default-clause-each c slot = inl (refl, refl)

pub returns-clause-each : goal.returns-clause-each
returns-clause-each c slot = elim (cases_eq slot c.args.set.slot) [
  | inl same ↦
      let zones = c.args.zones.now.zones in
      let w = subst (Watches zones c.args.set) c.in-Some.is c.watch.ensures in
      let b = slot_below zones c.args.zones.now.slots c.args.set w.0 c.slots_within.ensures.within w.1 in
      let slots = c.requires.slots in
      let within : c.args.set.slot < length c.args.seats.now.items = omega arith in
      let seat : Seat = record { set = c.seat_for-only.result.set; group = c.seat_at-seat.result.group; check = c.seat_for-only.result.check } in
      inr (
        (c.args.set, (w.0, (w.1, sym same))),
        ap own_part (ap (set_seat _) same ∙ seat_here c.args.seats.now.items c.args.set.slot seat within)
            ∙ own_none c.seat_for-only.result.set c.seat_for-only.ensures.early,
      )
  | inr apart ↦ inl (returns-clause-others c slot apart)
]

pub returns-clause-groups : goal.returns-clause-groups
returns-clause-groups c slot =
    let zones = c.args.zones.now.zones in
    let w = subst (Watches zones c.args.set) c.in-Some.is c.watch.ensures in
    let b = slot_below zones c.args.zones.now.slots c.args.set w.0 c.slots_within.ensures.within w.1 in
    let slots = c.requires.slots in
    let within : c.args.set.slot < length c.args.seats.now.items = omega arith in
    let seat : Seat = record { set = c.seat_for-only.result.set; group = c.seat_at-seat.result.group; check = c.seat_for-only.result.check } in
    group_kept c.args.seats.now.items c.args.set.slot seat within
    (c.seat_at-seat.ensures.group ∙ ap (λ (l : List Seat). group_seat l c.args.set.slot) c.deref.ensures.value) slot
