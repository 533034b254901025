use Rattle.std.proofs.Common.{◌≡◌, ◌≢◌, ℕ, zero, suc, List, Some, arith, refl, ap, sym, ◌∙◌, inl, inr}
use Rattle.std.specs.Prelude.{slice_get}
use Rattle.std.proofs.lemmas.Bool.{cases_eq}
use Rattle.std.proofs.lemmas.Option.{slice_get_within}
use Rattle.health_planning.proofs.Groups.{member_at}
use Rattle.health_planning.proofs.Noted.{few_members}
use Rattle.health_planning.specs.Groups.{members_of}
use Rattle.health_planning.specs.Wired.{group_seat}
use Rattle.health_planning.specs.declared.seats.Seat.{Seat}
use Rattle.zone_model.proofs.Among.{among_at, place_of}
use Rattle.zone_model.specs.Slotted.{IsHere, Slotted}
use Rattle.health_standing.specs.Regrouping.{IsToldIn}
use Rattle.health_standing.proofs.regrouping.told_in.Goals as goal

some_same : {X : Type 0} {x y : X} → Some x ≡ Some y → x ≡ y
some_same e = cc

told_some : (seats : List Seat) (members : List Slotted) (told : ℕ) → told ≢ 0 → (p : Slotted)
    → IsHere members p → group_seat seats p.slot ≡ told → IsToldIn seats members told
told_some seats members zero some p m is = absurd (some refl)
told_some seats members (suc valve) some p m is = (p, (m, is))

pub returns-then-told-ne0 : goal.returns-then-told-ne0
returns-then-told-ne0 c =
    let members = members_of c.args.zones.now.zones c.args.group in
    let m = member_at c.args.zones.now.zones c.args.group c.loop-i.i c.member.result c.loop-i-test.true c.member.ensures in
    told_some c.args.seats.now members c.find_seat-told.result.group c.if-told-ne0.true m.p (among_at members c.loop-i.i m.p m.at)
    (ap (group_seat c.args.seats.now) m.slot ∙ sym c.find_seat-told.ensures.group)

pub loop-i-preserved : goal.loop-i-preserved
loop-i-preserved c k p early at =
    let members = members_of c.args.zones.now.zones c.args.group in
    let m = member_at c.args.zones.now.zones c.args.group c.loop-i.i c.member.result c.loop-i-test.true c.member.ensures in
    elim (cases_eq k c.loop-i.i) [
      | inl last ↦
          let same = ap (λ (q : Slotted). q.slot) (some_same (sym at ∙ ap (slice_get members) last ∙ m.at)) ∙ m.slot in
          ap (group_seat c.args.seats.now) same ∙ sym c.find_seat-told.ensures.group ∙ c.if-told-ne0.false
      | inr other ↦ c.loop-i.invariant k p (omega arith) at
    ]

pub returns : goal.returns
returns c p here =
    let members = members_of c.args.zones.now.zones c.args.group in
    let long = few_members c.args.zones.now.zones c.args.group in
    let end = c.loop-i-test.false in
    let k = place_of members p here in
    let b = slice_get_within members k.0 p k.1 in
    c.loop-i.invariant k.0 p (omega arith) k.1
