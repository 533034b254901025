use Rattle.std.proofs.Common.{◌≡◌, ◌∙◌, List, ℕ, true, length, ap, sym}
use mathlib.Core.Path.{subst}
use Rattle.check_model.specs.declared.checks.Check.{Check}
use Rattle.health_planning.proofs.Wiring.{ids_long}
use Rattle.health_planning.specs.Wired.{StandApart}
use Rattle.health_index.proofs.Agreed.{one_way}
use Rattle.health_index.proofs.Fewer.{fewer_ids}
use Rattle.health_index.proofs.Ways.{same_way}
use Rattle.health_index.specs.Following.{AreFewer, AreSame, Follows, IsOpenTo, IsWay}
use Rattle.health_index.specs.Index.{Index}
use Rattle.health_index.specs.declared.following.Way.{Way}
use Rattle.health_index.specs.declared.following.Way.TheVariants as way
use Rattle.health_index.proofs.index.HealthIndex.take_ids.Goals as goal

pub returns-in-Same-clause-followed : goal.returns-in-Same-clause-followed
returns-in-Same-clause-followed c zones old reports stands later sound done =
    let ids = c.deref.ensures.value ∙ ap (λ (i : Index). i.ids) c.self.view_is in
    let same = subst (λ (l : List (ℕ × Check)). AreSame c.args.self.now.ids l) c.as_slice-list.ensures.checks
    (subst (λ (l : List ℕ). AreSame l c.as_slice-list.result.now) ids c.in-Same.ensures) in
    same_way zones old c.args.checks.now.checks reports c.args.self.now stands c.as_slice-list.ensures.sound c.requires.kin later same.0 same.1

pub returns-in-More-clause-followed : goal.returns-in-More-clause-followed
returns-in-More-clause-followed c zones old reports stands later sound done =
    c.add_check.ensures.followed zones old reports stands later done

pub returns-in-Fewer-clause-as_many : goal.returns-in-Fewer-clause-as_many
returns-in-Fewer-clause-as_many c done =
    let ids = c.deref.ensures.value ∙ ap (λ (i : Index). i.ids) c.self.view_is in
    let fewer = subst (λ (l : List (ℕ × Check)). AreFewer c.args.self.now.ids c.in-Fewer.gone l) c.as_slice-list.ensures.checks
    (subst (λ (l : List ℕ). AreFewer l c.in-Fewer.gone c.as_slice-list.result.now) ids c.in-Fewer.ensures) in
    ap (λ (i : Index). length i.ids) (c.drop_check.ensures.follows done)
    ∙ ap length (fewer_ids c.args.self.now.ids c.args.checks.now.checks.list c.in-Fewer.gone fewer)
    ∙ ids_long c.args.checks.now.checks.list

pub returns-in-Fewer-clause-in_place : goal.returns-in-Fewer-clause-in_place
returns-in-Fewer-clause-in_place c told is open_to =
    let ids = c.deref.ensures.value ∙ ap (λ (i : Index). i.ids) c.self.view_is in
    let apart = subst (λ (i : Index). StandApart i.ids) c.self.view_is c.self.invariant.apart in
    let fewer = subst (λ (l : List (ℕ × Check)). AreFewer c.args.self.now.ids c.in-Fewer.gone l) c.as_slice-list.ensures.checks
    (subst (λ (l : List ℕ). AreFewer l c.in-Fewer.gone c.as_slice-list.result.now) ids c.in-Fewer.ensures) in
    let same = one_way c.args.self.now.ids c.args.checks.now.checks.list (way.Fewer c.in-Fewer.gone) told apart
    (λ other. subst (λ (w : Way). IsOpenTo w c.args.checks.now.checks.list c.args.self.now) other open_to) fewer is in
    let ready = subst (λ (w : Way). IsOpenTo w c.args.checks.now.checks.list c.args.self.now) (sym same) open_to in
    let done = c.drop_check.ensures.ready ready in
    subst (λ (w : Way). (c.drop_check.result ≡ true)
    × Follows w c.args.checks.now.checks.list c.args.self.now c.drop_check.new.self) same (done, c.drop_check.ensures.follows done)

pub returns-in-Other-clause-in_place : goal.returns-in-Other-clause-in_place
returns-in-Other-clause-in_place c told is open_to =
    let ids = c.deref.ensures.value ∙ ap (λ (i : Index). i.ids) c.self.view_is in
    let apart = subst (λ (i : Index). StandApart i.ids) c.self.view_is c.self.invariant.apart in
    let none = subst (λ (l : List (ℕ × Check)). IsWay c.args.self.now.ids l way.Other) c.as_slice-list.ensures.checks
    (subst (λ (l : List ℕ). IsWay l c.as_slice-list.result.now way.Other) ids c.in-Other.ensures) in
    let same = one_way c.args.self.now.ids c.args.checks.now.checks.list way.Other told apart
    (λ other. subst (λ (w : Way). IsOpenTo w c.args.checks.now.checks.list c.args.self.now) other open_to) none is in
    absurd (subst (λ (w : Way). IsOpenTo w c.args.checks.now.checks.list c.args.self.now) (sym same) open_to)
