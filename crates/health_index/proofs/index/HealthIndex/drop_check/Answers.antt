use Rattle.std.proofs.Common.{◌≡◌, length, arith, refl, ap, sym}
use Rattle.std.specs.List.{remove}
use mathlib.Core.Path.{subst}
use Rattle.health_index.proofs.Fewer.{fewer_way, gone_alone, whole_fewer}
use Rattle.health_index.proofs.Reporting.{alone_in_all}
use Rattle.health_index.proofs.Reshaped.{followed_with, intact_with}
use Rattle.health_index.specs.Following.{AreFewer, HasCheckers}
use Rattle.health_index.specs.Index.{Index, StandsFor}
use Rattle.health_index.specs.Kin.{kin_of}
use Rattle.health_planning.proofs.Numbers.{number_there}
use Rattle.health_index.proofs.Laid.{as_much_by}
use Rattle.health_index.proofs.index.HealthIndex.drop_check.Goals as goal

pub has_checkers-requires : goal.has_checkers-requires
has_checkers-requires c =
    let w = c.self.invariant in
    let fewer = subst (λ (i : Index). AreFewer i.ids c.args.gone c.args.checks.now.checks.list) (sym c.self.view_is) c.requires.fewer in
    let goes = fewer.0 in
    let many = w.as_many in
    let seen = ap length c.deref.ensures.value in
    omega arith

pub returns-then-not-has_checkers-clause-ready : goal.returns-then-not-has_checkers-clause-ready
returns-then-not-has_checkers-clause-ready c have =
    let inner = subst (λ (i : Index). HasCheckers i.seen c.args.gone) (sym c.self.view_is) have in
    c.if-not-has_checkers.ensures.1 (rw c.deref.ensures.value inner)

pub number_at-valve-requires : goal.number_at-valve-requires
number_at-valve-requires c =
    let w = c.self.invariant in
    let fewer = subst (λ (i : Index). AreFewer i.ids c.args.gone c.args.checks.now.checks.list) (sym c.self.view_is) c.requires.fewer in
    let goes = fewer.0 in
    let many = w.numbers.as_many in
    let numbers = ap length c.deref-2.ensures.value in
    omega arith

pub reshape-requires-clause-ready : goal.reshape-requires-clause-ready
reshape-requires-clause-ready c =
    let w = c.self.invariant in
    (w.net, w.own, w.fits)

pub reshape-requires-clause-valve : goal.reshape-requires-clause-valve
reshape-requires-clause-valve c =
    let w = c.self.invariant in
    let fewer = subst (λ (i : Index). AreFewer i.ids c.args.gone c.args.checks.now.checks.list) (sym c.self.view_is) c.requires.fewer in
    let goes = fewer.0 in
    let many = w.numbers.as_many in
    let rows = w.fits.laid.size in
    let numbered = number_there _ c.args.gone c.number_at-valve.result (omega arith) (rw c.deref-2.ensures.value at c.number_at-valve.ensures) in
    let within = w.within c.args.gone c.number_at-valve.result numbered in
    omega arith

pub invariant_of-self : goal.invariant_of-self
invariant_of-self c =
    let w = c.self.invariant in
    let fewer = subst (λ (i : Index). AreFewer i.ids c.args.gone c.args.checks.now.checks.list) (sym c.self.view_is) c.requires.fewer in
    let have = rw c.deref.ensures.value at c.if-not-has_checkers.ensures.0 refl in
    let goes = fewer.0 in
    let many = w.numbers.as_many in
    let numbered = number_there _ c.args.gone c.number_at-valve.result (omega arith) (rw c.deref-2.ensures.value at c.number_at-valve.ensures) in
    intact_with _ w c.reshape.new.self _ (remove c.self.inside.ids.items c.args.gone) _ (remove c.self.inside.numbers.items c.args.gone) _ (remove c.self.inside.seen.items c.args.gone) _
    c.remove.ensures.items c.remove-2.ensures.items c.remove-3.ensures.items
    (whole_fewer _ w c.args.checks.now.checks c.requires.sound c.args.gone c.number_at-valve.result fewer numbered
    (gone_alone _ w c.args.gone c.number_at-valve.result goes have numbered)
    c.reshape.new.self (c.reshape.ensures.fits w.net w.own w.fits) c.reshape.ensures.idle _)

pub returns-clause-followed : goal.returns-clause-followed
returns-clause-followed c zones old reports stands later sound done =
    let w = c.self.invariant in
    let was = subst (StandsFor zones old reports) (sym c.self.view_is) stands in
    let kin = subst (λ (i : Index). i.kin ≡ kin_of c.args.checks.now.checks.list) (sym c.self.view_is) c.requires.kin in
    let fewer = subst (λ (i : Index). AreFewer i.ids c.args.gone c.args.checks.now.checks.list) (sym c.self.view_is) c.requires.fewer in
    let have = rw c.deref.ensures.value at c.if-not-has_checkers.ensures.0 refl in
    let goes = fewer.0 in
    let many = w.numbers.as_many in
    let numbered = number_there _ c.args.gone c.number_at-valve.result (omega arith) (rw c.deref-2.ensures.value at c.number_at-valve.ensures) in
    followed_with _ w c.reshape.new.self _ (remove c.self.inside.ids.items c.args.gone) _ (remove c.self.inside.numbers.items c.args.gone) _ (remove c.self.inside.seen.items c.args.gone) _
    c.remove.ensures.items c.remove-2.ensures.items c.remove-3.ensures.items zones c.args.checks.now.checks reports
    (fewer_way zones old c.args.checks.now.checks reports _ was c.requires.sound kin later sound
    c.args.gone c.number_at-valve.result fewer numbered
    (alone_in_all w.net was.net w.own was.own c.self.inside.valves c.number_at-valve.result (w.within c.args.gone c.number_at-valve.result numbered) w.fits was.fits
    (gone_alone _ w c.args.gone c.number_at-valve.result goes have numbered))
    c.reshape.new.self (c.reshape.ensures.fits was.net was.own was.fits)
    (c.reshape.ensures.meet was.net was.own was.fits was.ends was.meet) c.reshape.ensures.idle _)

pub returns-clause-as_much : goal.returns-clause-as_much
returns-clause-as_much c = as_much_by _ _ _ c.self.view_is refl refl c.reshape.ensures.size c.reshape.ensures.links
