use Rattle.std.proofs.Common.{length, arith, ap, sym, ◌∙◌}
use mathlib.Core.Path.{subst}
use Rattle.std.proofs.lemmas.Option.{slice_get_within}
use Rattle.health_index.specs.Index.{Index, StandsFor}
use Rattle.health_planning.specs.Wired.{IsPlace}
use Rattle.health_planning.proofs.Numbers.{number_there}
use Rattle.health_index.proofs.Telling.{nothing_told, told}
use Rattle.health_index.proofs.index.HealthIndex.check_status.Goals as goal

pub returns-in_default : goal.returns-in_default
returns-in_default c zones checks reports stands =
    let ids = ap (λ (i : Index). i.ids) (sym c.self.view_is) ∙ sym c.deref.ensures.value in
    let none = subst (IsPlace c.deref.result.now c.args.id) c.in_default.is c.place_near.ensures in
    nothing_told zones checks reports c.args.self.now stands c.args.id (λ place is. none place (rw ids at is))

pub place_near-requires : goal.place_near-requires
place_near-requires c = rw c.deref.ensures.value c.self.invariant.apart

pub number_at-valve-requires : goal.number_at-valve-requires
number_at-valve-requires c =
    let here = (subst (IsPlace c.deref.result.now c.args.id) c.in-Some.is c.place_near.ensures).0 in
    let within = slice_get_within c.deref.result.now c.in-Some.place c.args.id here in
    let ids = ap length c.deref.ensures.value in
    let numbers = ap length c.deref-2.ensures.value in
    let many = c.self.invariant.numbers.as_many in
    omega arith

pub count-requires-clause-valve : goal.count-requires-clause-valve
count-requires-clause-valve c =
    let here = (subst (IsPlace c.deref.result.now c.args.id) c.in-Some.is c.place_near.ensures).0 in
    let within = slice_get_within c.deref.result.now c.in-Some.place c.args.id here in
    let ids = ap length c.deref.ensures.value in
    let many = c.self.invariant.numbers.as_many in
    let size = c.self.invariant.fits.laid.size in
    let numbered = number_there _ c.in-Some.place c.number_at-valve.result (omega arith) (rw c.deref-2.ensures.value at c.number_at-valve.ensures) in
    let b = c.self.invariant.within c.in-Some.place c.number_at-valve.result numbered in
    omega arith

pub value-requires-clause-valve : goal.value-requires-clause-valve
value-requires-clause-valve c =
    let here = (subst (IsPlace c.deref.result.now c.args.id) c.in-Some.is c.place_near.ensures).0 in
    let within = slice_get_within c.deref.result.now c.in-Some.place c.args.id here in
    let ids = ap length c.deref.ensures.value in
    let many = c.self.invariant.numbers.as_many in
    let size = c.self.invariant.fits.laid.size in
    let numbered = number_there _ c.in-Some.place c.number_at-valve.result (omega arith) (rw c.deref-2.ensures.value at c.number_at-valve.ensures) in
    let b = c.self.invariant.within c.in-Some.place c.number_at-valve.result numbered in
    omega arith

pub returns : goal.returns
returns c zones checks reports stands =
    let here = subst (IsPlace c.deref.result.now c.args.id) c.in-Some.is c.place_near.ensures in
    let inner = sym c.deref.ensures.value in
    let old = subst (StandsFor zones checks reports) (sym c.self.view_is) stands in
    let within = slice_get_within c.deref.result.now c.in-Some.place c.args.id here.0 in
    let ids = ap length c.deref.ensures.value in
    let many = c.self.invariant.numbers.as_many in
    let numbered = number_there _ c.in-Some.place c.number_at-valve.result (omega arith) (rw c.deref-2.ensures.value at c.number_at-valve.ensures) in
    told zones checks reports _ old c.args.id c.in-Some.place c.number_at-valve.result (rw inner here.0) (rw inner here.1) numbered c.value.result c.count.result c.short-number.result
    (c.index_tells_health.ensures zones checks reports _ old) c.value.ensures (c.count.ensures old.net old.own old.fits) c.short-number.ensures
