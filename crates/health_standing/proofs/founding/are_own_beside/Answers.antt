use Rattle.std.proofs.Common.{◌≡◌, Some, arith, refl, ap, sym, ◌∙◌, inl, inr}
use Rattle.std.specs.Prelude.{slice_get}
use Rattle.std.proofs.lemmas.Bool.{cases_eq, false≢true}
use Rattle.std.proofs.lemmas.Option.{slice_get_within}
use mathlib.Core.Path.{subst}
use Rattle.health_planning.proofs.Groups.{member_at}
use Rattle.health_planning.proofs.Noted.{few_members}
use Rattle.health_planning.specs.Groups.{members_of}
use Rattle.health_standing.specs.Founding.{IsOwnBeside}
use Rattle.zone_model.proofs.Among.{among_at, place_of}
use Rattle.zone_model.specs.Slotted.{Slotted}
use Rattle.health_standing.proofs.founding.are_own_beside.Goals as goal

some_same : {X : Type 0} {x y : X} → Some x ≡ Some y → x ≡ y
some_same e = cc

pub returns-then-not-is_own_beside : goal.returns-then-not-is_own_beside
returns-then-not-is_own_beside c =
    let members = members_of c.args.zones.now.zones c.args.group in
    let m = member_at c.args.zones.now.zones c.args.group c.loop-i.i c.member.result c.loop-i-test.true c.member.ensures in (
      λ none. absurd (false≢true none),
      λ all. absurd (false≢true (sym c.if-not-is_own_beside.true
          ∙ c.is_own_beside.ensures.1
          (subst (IsOwnBeside c.args.seats.now c.args.slot) m.slot (all m.p (among_at members c.loop-i.i m.p m.at))))),
    )

pub loop-i-preserved : goal.loop-i-preserved
loop-i-preserved c k p early at =
    let members = members_of c.args.zones.now.zones c.args.group in
    let m = member_at c.args.zones.now.zones c.args.group c.loop-i.i c.member.result c.loop-i-test.true c.member.ensures in
    elim (cases_eq k c.loop-i.i) [
      | inl last ↦
          let same = some_same (sym m.at ∙ ap (slice_get members) (sym last) ∙ at) in
          subst (λ (q : Slotted). IsOwnBeside c.args.seats.now c.args.slot q.slot) same
          (subst (IsOwnBeside c.args.seats.now c.args.slot) (sym m.slot)
          (c.is_own_beside.ensures.0 c.if-not-is_own_beside.false))
      | inr other ↦ c.loop-i.invariant k p (omega arith) at
    ]

pub returns : goal.returns
returns c =
    let members = members_of c.args.zones.now.zones c.args.group in
    let long = few_members c.args.zones.now.zones c.args.group in
    let end = c.loop-i-test.false in (
      λ on p here.
          (let k = place_of members p here in
          let b = slice_get_within members k.0 p k.1 in
          c.loop-i.invariant k.0 p (omega arith) k.1),
      λ all. refl,
    )
