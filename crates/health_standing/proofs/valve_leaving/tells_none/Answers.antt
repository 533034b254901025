use Rattle.std.proofs.Common.{◌≡◌, Some, arith, refl, ap, sym, ◌∙◌, inl, inr}
use Rattle.std.specs.Prelude.{slice_get}
use Rattle.std.proofs.lemmas.Bool.{cases_eq}
use Rattle.std.proofs.lemmas.Option.{slice_get_within}
use Rattle.health_planning.proofs.Noted.{few_members}
use Rattle.health_planning.specs.Groups.{members_of}
use Rattle.zone_model.proofs.Among.{among_at, place_of}
use Rattle.zone_model.specs.Slotted.{Slotted}
use Rattle.health_planning.proofs.Groups.{member_at}
use Rattle.health_planning.specs.Wired.{group_seat}
use Rattle.health_standing.proofs.valve_leaving.tells_none.Goals as goal

some_same : {X : Type 0} {x y : X} → Some x ≡ Some y → x ≡ y
some_same e = cc

pub returns-then-find_seat-ne0 : goal.returns-then-find_seat-ne0
returns-then-find_seat-ne0 c =
    let members = members_of c.args.zones.now.zones c.args.group in
    let m = member_at c.args.zones.now.zones c.args.group c.loop-i.i c.member.result c.loop-i-test.true c.member.ensures in (
      λ so. absurd (grind (arith, so)),
      λ none. absurd (c.if-find_seat-ne0.true (c.find_seat.ensures.group ∙ ap (group_seat c.args.seats.now) (sym m.slot)
          ∙ none m.p (among_at members c.loop-i.i m.p m.at))),
    )

pub loop-i-preserved : goal.loop-i-preserved
loop-i-preserved c k p early at =
    let members = members_of c.args.zones.now.zones c.args.group in
    let m = member_at c.args.zones.now.zones c.args.group c.loop-i.i c.member.result c.loop-i-test.true c.member.ensures in
    elim (cases_eq k c.loop-i.i) [
      | inl last ↦
          let same = ap (λ (q : Slotted). q.slot) (some_same (sym at ∙ ap (slice_get members) last ∙ m.at)) ∙ m.slot in
          ap (group_seat c.args.seats.now) same ∙ sym c.find_seat.ensures.group ∙ c.if-find_seat-ne0.false
      | inr other ↦ c.loop-i.invariant k p (omega arith) at
    ]

pub returns : goal.returns
returns c =
    let members = members_of c.args.zones.now.zones c.args.group in
    let long = few_members c.args.zones.now.zones c.args.group in
    let end = c.loop-i-test.false in (
      λ so p here.
          let k = place_of members p here in
          let b = slice_get_within members k.0 p k.1 in
          c.loop-i.invariant k.0 p (omega arith) k.1,
      λ none. refl,
    )
