use Rattle.std.proofs.Common.{◌≡◌, length, arith, refl, sym, ◌∙◌}
use mathlib.Core.Path.{subst}
use Rattle.health_index.proofs.Reshaped.{finished, whole_reshaped}
use Rattle.health_index.specs.Following.{IsFollowed}
use Rattle.health_index.specs.Index.{Index}
use Rattle.health_index.proofs.Laid.{as_much_by}
use Rattle.health_index.proofs.index.HealthIndex.follow_checks.Goals as goal

pub invariant_of-self : goal.invariant_of-self
invariant_of-self c =
    let w = c.self.invariant in
    whole_reshaped _ w _ _ c.reshape_checks.new.valves _ (rw c.deref.ensures.value at c.reshape_checks.ensures.reshaped w.net w.own w.fits) c.reshape_checks.ensures.idle

pub reshape_checks-requires-clause-numbers : goal.reshape_checks-requires-clause-numbers
reshape_checks-requires-clause-numbers c =
    let w = c.self.invariant in
    let as_many = subst (λ (i : Index). length i.ids ≡ length c.args.checks.now.checks.list) (sym c.self.view_is) c.requires.as_many in
    rw (c.as_slice.ensures.checks, c.deref.ensures.value)
    (record { as_many = w.numbers.as_many ∙ as_many; apart = w.numbers.apart; early = w.numbers.early })

pub reshape_checks-requires-clause-within : goal.reshape_checks-requires-clause-within
reshape_checks-requires-clause-within c place valve at =
    let w = c.self.invariant in
    let size = w.fits.laid.size in
    let b = w.within place valve (rw c.deref.ensures.value at at) in
    omega arith

pub returns-clause-stands : goal.returns-clause-stands
returns-clause-stands c zones reports followed sound =
    let list = c.as_slice.ensures.checks in
    let was = subst (IsFollowed zones c.args.checks.now.checks reports) (sym c.self.view_is) followed in
    finished zones c.args.checks.now.checks reports _ was c.as_slice.ensures.sound sound c.reshape_checks.new.valves
    (rw (list, c.deref.ensures.value) at c.reshape_checks.ensures.reshaped was.net was.own was.fits) c.reshape_checks.ensures.idle _

pub returns-clause-as_much : goal.returns-clause-as_much
returns-clause-as_much c = as_much_by _ _ _ c.self.view_is refl refl c.reshape_checks.ensures.size c.reshape_checks.ensures.links
