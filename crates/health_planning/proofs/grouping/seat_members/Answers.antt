use Rattle.std.proofs.Common.{◌≡◌, List, Some, length, arith, refl, ap, sym, ◌∙◌, inl, inr}
use Rattle.std.specs.Prelude.{slice_get}
use Rattle.std.proofs.lemmas.Bool.{cases_eq}
use Rattle.std.proofs.lemmas.Option.{slice_get_within}
use Rattle.policy_select.proofs.Noted.{few_members}
use Rattle.policy_select.specs.Groups.{members_of}
use Rattle.zone_model.proofs.Among.{among_at, place_of}
use Rattle.zone_model.specs.Slotted.{Slotted}
use Rattle.health_planning.specs.Wired.{group_seat}
use Rattle.health_planning.specs.declared.seats.Seat.{Seat}
use Rattle.health_planning.proofs.Groups.{member_at}
use Rattle.health_planning.proofs.ListedOnce.{slot_below}
use Rattle.health_planning.proofs.grouping.seat_members.Goals as goal

some_same : {X : Type 0} {x y : X} → Some x ≡ Some y → x ≡ y
some_same e = cc

pub loop-i-init : goal.loop-i-init
loop-i-init c = record {
  sets = record { valves = λ slot. refl; checks = λ slot. refl };
  size = refl;
  each = λ k p early at. absurd (omega arith);
  others = λ slot none. refl;
  noted = c.requires.noted;
  room = refl;
}

pub note_one-requires-clause-slot : goal.note_one-requires-clause-slot
note_one-requires-clause-slot c =
    let m = member_at c.args.zones.now.zones c.args.group c.loop-i.i c.member-set.result c.loop-i-test.true c.member-set.ensures in
    let b = slot_below c.args.zones.now.zones c.args.zones.now.slots c.member-set.result m.p.set c.slots_within.ensures.within m.names in
    let slots = c.requires.slots in
    let size = c.loop-i.invariant.size in
    let read = ap length c.deref.ensures.value in
    omega arith

pub note_one-requires-clause-noted : goal.note_one-requires-clause-noted
note_one-requires-clause-noted c = rw c.deref.ensures.value c.loop-i.invariant.noted

pub note_one-requires-clause-room : goal.note_one-requires-clause-room
note_one-requires-clause-room c =
    let size = c.loop-i.invariant.size in
    let read = ap length c.deref.ensures.value in
    let kept = c.loop-i.invariant.room in
    let room = c.requires.room in
    omega arith

pub seat_one-requires : goal.seat_one-requires
seat_one-requires c =
    let m = member_at c.args.zones.now.zones c.args.group c.loop-i.i c.member-set.result c.loop-i-test.true c.member-set.ensures in
    let b = slot_below c.args.zones.now.zones c.args.zones.now.slots c.member-set.result m.p.set c.slots_within.ensures.within m.names in
    let slots = c.requires.slots in
    let size = c.loop-i.invariant.size in
    omega arith

pub loop-i-preserved : goal.loop-i-preserved
loop-i-preserved c =
    let i = c.loop-i.invariant in
    let o = c.seat_one.ensures in
    let members = members_of c.args.zones.now.zones c.args.group in
    let m = member_at c.args.zones.now.zones c.args.group c.loop-i.i c.member-set.result c.loop-i-test.true c.member-set.ensures in
    record {
      sets = record {
        valves = λ slot. o.sets.valves slot ∙ i.sets.valves slot;
        checks = λ slot. o.sets.checks slot ∙ i.sets.checks slot;
      };
      size = o.size ∙ i.size;
      each = λ k p early at. elim (cases_eq p.slot c.member-set.result.slot) [
        | inl same ↦ ap (group_seat c.seat_one.new.seats.items) same ∙ o.here
        | inr apart ↦ o.others p.slot apart ∙ i.each k p (elim (cases_eq k c.loop-i.i) [
          | inl last ↦ absurd (apart (ap (λ (q : Slotted). q.slot) (some_same (sym at ∙ ap (slice_get members) last ∙ m.at)) ∙ m.slot))
          | inr other ↦ omega arith
        ]) at
      ];
      others = λ slot none.
          o.others slot (λ e. none (m.p, among_at members c.loop-i.i m.p m.at, m.slot ∙ sym e)) ∙ i.others slot none;
      noted =
          let some = c.requires.valve in
          let here = o.here in
          c.note_one.ensures.noted c.seat_one.new.seats.items (λ none. omega arith)
          (λ other apart. o.others other apart ∙ ap (λ (l : List Seat). group_seat l other) (sym c.deref.ensures.value));
      room = c.note_one.ensures.room ∙ i.room;
    }

pub returns-clause-seated : goal.returns-clause-seated
returns-clause-seated c =
    let i = c.loop-i.invariant in
    let members = members_of c.args.zones.now.zones c.args.group in
    let long = few_members c.args.zones.now.zones c.args.group in
    let end = c.loop-i-test.false in
    record {
      sets = i.sets;
      size = i.size;
      each = λ p here.
          let k = place_of members p here in
          let b = slice_get_within members k.0 p k.1 in
          i.each k.0 p (omega arith) k.1;
      others = i.others;
    }
