use Rattle.std.proofs.Common.{◌≡◌, ◌<◌, ◌+◌, ℕ, Some, arith, refl, ap, sym, ◌∙◌, inl, inr}
use Rattle.std.specs.Prelude.{slice_get}
use Rattle.std.proofs.lemmas.Bool.{cases_eq}
use Rattle.std.proofs.lemmas.Option.{slice_get_within}
use Rattle.health_planning.proofs.Groups.{member_at}
use Rattle.health_planning.proofs.ListedOnce.{slot_below}
use Rattle.health_planning.proofs.Noted.{few_members}
use Rattle.health_planning.specs.Groups.{members_of}
use Rattle.health_planning.specs.Wired.{group_seat}
use Rattle.zone_model.proofs.Among.{among_at, place_of}
use Rattle.zone_model.specs.Slotted.{Slotted}
use Rattle.health_standing.proofs.founding.seat_those.Goals as goal

some_same : {X : Type 0} {x y : X} → Some x ≡ Some y → x ≡ y
some_same e = cc

pub loop-i-init : goal.loop-i-init
loop-i-init c = record {
  size = refl;
  sets = λ slot. (refl, refl);
  group = λ k p early at. absurd (omega arith);
  others = λ slot none. refl;
  room = refl;
}

pub put_group-requires : goal.put_group-requires
put_group-requires c =
    let m = member_at c.args.zones.now.zones c.args.group c.loop-i.i c.member.result c.loop-i-test.true c.member.ensures in
    let b = slot_below c.args.zones.now.zones c.args.zones.now.slots c.member.result m.p.set c.slots_within.ensures.within m.names in
    let slots = c.requires.slots in
    let size = c.loop-i.invariant.size in
    omega (arith, b, slots, size)

pub loop-i-preserved : goal.loop-i-preserved
loop-i-preserved c =
    let i = c.loop-i.invariant in
    let o = c.put_group.ensures in
    let members = members_of c.args.zones.now.zones c.args.group in
    let m = member_at c.args.zones.now.zones c.args.group c.loop-i.i c.member.result c.loop-i-test.true c.member.ensures in
    let before : (k : ℕ) (p : Slotted) → k < c.loop-i.i + 1 → slice_get members k ≡ Some p → (p.slot ≡ c.member.result.slot → ⊥) → k < c.loop-i.i =
    λ k p early at apart. elim (cases_eq k c.loop-i.i) [
      | inl last ↦ absurd (apart (ap (λ (q : Slotted). q.slot) (some_same (sym at ∙ ap (slice_get members) last ∙ m.at)) ∙ m.slot))
      | inr other ↦ omega (arith, early, other)
    ] in
    record {
      size = o.size ∙ i.size;
      sets = λ slot. ((o.sets slot).0 ∙ (i.sets slot).0, (o.sets slot).1 ∙ (i.sets slot).1);
      group = λ k p early at. elim (cases_eq p.slot c.member.result.slot) [
        | inl same ↦ ap (group_seat c.put_group.new.seats.items) same ∙ o.group
        | inr apart ↦ o.others p.slot apart ∙ i.group k p (before k p (omega (arith, early)) at apart) at
      ];
      others = λ slot none.
          o.others slot (λ e. none (m.p, among_at members c.loop-i.i m.p m.at, m.slot ∙ sym e)) ∙ i.others slot none;
      room = o.room ∙ i.room;
    }

pub returns-clause-seated : goal.returns-clause-seated
returns-clause-seated c =
    let i = c.loop-i.invariant in
    let members = members_of c.args.zones.now.zones c.args.group in
    let long = few_members c.args.zones.now.zones c.args.group in
    let end = c.loop-i-test.false in
    record {
      sets = i.sets;
      group = λ p here.
          let k = place_of members p here in
          let b = slice_get_within members k.0 p k.1 in
          i.group k.0 p (omega arith) k.1;
      others = i.others;
    }
