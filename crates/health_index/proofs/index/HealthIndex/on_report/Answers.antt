use Rattle.std.proofs.Common.{◌≡◌, length, arith, ap, sym, ◌∙◌}
use Rattle.std.proofs.lemmas.List.{with_items_is}
use mathlib.Core.Path.{subst}
use Rattle.std.proofs.lemmas.Option.{slice_get_within}
use Rattle.health_valves.specs.Valves.{value_of}
use Rattle.health_index.specs.Index.{Index, StandsFor}
use Rattle.health_planning.specs.Wired.{IsPlace}
use Rattle.std.specs.Prelude.{slice_index}
use Rattle.health_planning.specs.Wired.{valve_with}
use Rattle.health_planning.proofs.Numbers.{number_is, number_there}
use Rattle.health_index.proofs.Costing.{few_steps}
use Rattle.health_index.proofs.Reporting.{alone_in_all, at_place, none_seen, not_there, some_seen, stands_after, stands_taken}
use Rattle.health_index.proofs.Taken.{taken, whole_taken}
use Rattle.health_index.proofs.index.HealthIndex.on_report.Goals as goal

pub returns-in_default-clause-stands : goal.returns-in_default-clause-stands
returns-in_default-clause-stands g c zones checks reports stands endpoint =
    let ids = ap (λ (i : Index). i.ids) (sym c.self.view_is) ∙ sym c.deref.ensures.value in
    let none = subst (IsPlace c.deref.result.now c.args.id) c.in_default.is c.place_near.ensures in
    absurd (not_there zones checks reports c.args.self.now stands c.args.id (λ place is. none place (rw ids at is)) endpoint)

pub returns-in_default-clause-changed : goal.returns-in_default-clause-changed
returns-in_default-clause-changed g c zones checks reports stands endpoint =
    let ids = ap (λ (i : Index). i.ids) (sym c.self.view_is) ∙ sym c.deref.ensures.value in
    let none = subst (IsPlace c.deref.result.now c.args.id) c.in_default.is c.place_near.ensures in
    absurd (not_there zones checks reports c.args.self.now stands c.args.id (λ place is. none place (rw ids at is)) endpoint)

pub place_near-requires : goal.place_near-requires
place_near-requires g c = rw c.deref.ensures.value c.self.invariant.apart

pub take_result-requires-clause-place : goal.take_result-requires-clause-place
take_result-requires-clause-place g c =
    let here = (subst (IsPlace c.deref.result.now c.args.id) c.in-Some.is c.place_near.ensures).0 in
    let within = slice_get_within c.deref.result.now c.in-Some.place c.args.id here in
    let as_many = c.self.invariant.as_many in
    let ids = ap length c.deref.ensures.value in
    let seen = ap length c.as_mut_slice.ensures.value in
    omega arith

pub returns-in_default-take_result-clause-stands : goal.returns-in_default-take_result-clause-stands
returns-in_default-take_result-clause-stands g c zones checks reports stands endpoint =
    let ids = ap (λ (i : Index). i.ids) (sym c.self.view_is) ∙ sym c.deref.ensures.value in
    let seen = ap (λ (i : Index). i.seen) (sym c.self.view_is) in
    let here = subst (IsPlace c.deref.result.now c.args.id) c.in-Some.is c.place_near.ensures in
    let took =
    taken c.args.checker c.args.pass c.as_mut_slice.result.now c.self.inside.seen.items c.take_result.new.seen c.in-Some.place
    _ _ c.as_mut_slice.ensures.value c.in_default-take_result.is c.take_result.ensures
    in
    absurd (none_seen zones checks reports c.args.self.now stands c.args.id c.in-Some.place
    (rw ids here.0) (rw ids here.1) (rw seen took.0) endpoint)

pub returns-in_default-take_result-clause-changed : goal.returns-in_default-take_result-clause-changed
returns-in_default-take_result-clause-changed g c zones checks reports stands endpoint =
    let ids = ap (λ (i : Index). i.ids) (sym c.self.view_is) ∙ sym c.deref.ensures.value in
    let seen = ap (λ (i : Index). i.seen) (sym c.self.view_is) in
    let here = subst (IsPlace c.deref.result.now c.args.id) c.in-Some.is c.place_near.ensures in
    let took =
    taken c.args.checker c.args.pass c.as_mut_slice.result.now c.self.inside.seen.items c.take_result.new.seen c.in-Some.place
    _ _ c.as_mut_slice.ensures.value c.in_default-take_result.is c.take_result.ensures
    in
    absurd (none_seen zones checks reports c.args.self.now stands c.args.id c.in-Some.place
    (rw ids here.0) (rw ids here.1) (rw seen took.0) endpoint)

pub number_at-valve-requires : goal.number_at-valve-requires
number_at-valve-requires g c =
    let here = (subst (IsPlace c.deref.result.now c.args.id) c.in-Some.is c.place_near.ensures).0 in
    let within = slice_get_within c.deref.result.now c.in-Some.place c.args.id here in
    let ids = ap length c.deref.ensures.value in
    let numbers = ap length c.deref-2.ensures.value in
    let many = c.self.invariant.numbers.as_many in
    omega arith

pub take_count-requires-clause-valve : goal.take_count-requires-clause-valve
take_count-requires-clause-valve g c =
    let within = slice_get_within c.deref.result.now c.in-Some.place c.args.id (subst (IsPlace c.deref.result.now c.args.id) c.in-Some.is c.place_near.ensures).0 in
    let ids_long = ap length c.deref.ensures.value in
    let many = c.self.invariant.numbers.as_many in
    let numbered = number_there _ c.in-Some.place c.number_at-valve.result (omega arith) (rw c.deref-2.ensures.value at c.number_at-valve.ensures) in
    let size = c.self.invariant.fits.laid.size in
    let b = c.self.invariant.within c.in-Some.place c.number_at-valve.result numbered in
    omega arith

pub take_count-requires-clause-alone : goal.take_count-requires-clause-alone
take_count-requires-clause-alone g c net own fits =
    let w = c.self.invariant in
    let within = slice_get_within c.deref.result.now c.in-Some.place c.args.id (subst (IsPlace c.deref.result.now c.args.id) c.in-Some.is c.place_near.ensures).0 in
    let ids_long = ap length c.deref.ensures.value in
    let many = c.self.invariant.numbers.as_many in
    let numbered = number_there _ c.in-Some.place c.number_at-valve.result (omega arith) (rw c.deref-2.ensures.value at c.number_at-valve.ensures) in
    let most = w.within c.in-Some.place c.number_at-valve.result numbered in
    let took =
    taken c.args.checker c.args.pass c.as_mut_slice.result.now c.self.inside.seen.items c.take_result.new.seen c.in-Some.place
    _ _ c.as_mut_slice.ensures.value c.in-Some-take_result.is c.take_result.ensures
    in
    alone_in_all w.net net w.own own c.self.inside.valves c.number_at-valve.result most w.fits fits
    (w.alone c.in-Some.place c.number_at-valve.result took.0 took.2 numbered)

pub invariant_of-self-2 : goal.invariant_of-self-2
invariant_of-self-2 g c =
    let w = c.self.invariant in
    let took =
    taken c.args.checker c.args.pass c.as_mut_slice.result.now c.self.inside.seen.items c.take_result.new.seen c.in-Some.place
    _ _ c.as_mut_slice.ensures.value c.in-Some-take_result.is c.take_result.ensures
    in
    let seen =
    with_items_is c.self.inside.seen c.take_result.new.seen (omega (arith, c.take_result.auto.seen, c.as_mut_slice.ensures.len))
    in
    whole_taken _ w _ _ c.in-Some.place c.number_at-valve.result c.from.result took.0 took.1 c.take_count.new.self took.2 (seen ∙ took.3)
    (c.take_count.ensures.fits w.net w.own w.fits) c.take_count.ensures.idle

pub returns-clause-stands : goal.returns-clause-stands
returns-clause-stands g c zones checks reports stands endpoint =
    let place = c.in-Some.place in
    let within = slice_get_within c.deref.result.now c.in-Some.place c.args.id (subst (IsPlace c.deref.result.now c.args.id) c.in-Some.is c.place_near.ensures).0 in
    let ids_long = ap length c.deref.ensures.value in
    let many = c.self.invariant.numbers.as_many in
    let numbered = number_there _ c.in-Some.place c.number_at-valve.result (omega arith) (rw c.deref-2.ensures.value at c.number_at-valve.ensures) in
    let ids = ap (λ (i : Index). i.ids) (sym c.self.view_is) ∙ sym c.deref.ensures.value in
    let here = subst (IsPlace c.deref.result.now c.args.id) c.in-Some.is c.place_near.ensures in
    let old = subst (StandsFor zones checks reports) (sym c.self.view_is) stands in
    let inner = sym c.deref.ensures.value in
    let took =
    taken c.args.checker c.args.pass c.as_mut_slice.result.now c.self.inside.seen.items c.take_result.new.seen c.in-Some.place
    _ _ c.as_mut_slice.ensures.value c.in-Some-take_result.is c.take_result.ensures
    in
    let seen =
    with_items_is c.self.inside.seen c.take_result.new.seen (omega (arith, c.take_result.auto.seen, c.as_mut_slice.ensures.len))
    in
    stands_taken c.fifty_alone.ensures c.one_more_report.ensures zones checks reports _ old c.args.id c.args.checker c.args.pass place c.number_at-valve.result
    took.0 took.1 c.from.result c.take_count.new.self c.requires.checker
    (rw inner here.0) (rw inner here.1) numbered endpoint took.2 took.4.takes
    (λ n results h. c.from.ensures ∙ took.4.counts n results h)
    (c.take_count.ensures.fits old.net old.own old.fits) (c.take_count.ensures.meet old.net old.own old.fits old.ends old.meet) c.take_count.ensures.idle _
    _ (seen ∙ took.3)

pub returns-clause-changed : goal.returns-clause-changed
returns-clause-changed g c zones checks reports stands endpoint =
    let place = c.in-Some.place in
    let within = slice_get_within c.deref.result.now c.in-Some.place c.args.id (subst (IsPlace c.deref.result.now c.args.id) c.in-Some.is c.place_near.ensures).0 in
    let ids_long = ap length c.deref.ensures.value in
    let many = c.self.invariant.numbers.as_many in
    let numbered = number_there _ c.in-Some.place c.number_at-valve.result (omega arith) (rw c.deref-2.ensures.value at c.number_at-valve.ensures) in
    let ids = ap (λ (i : Index). i.ids) (sym c.self.view_is) ∙ sym c.deref.ensures.value in
    let here = subst (IsPlace c.deref.result.now c.args.id) c.in-Some.is c.place_near.ensures in
    let old = subst (StandsFor zones checks reports) (sym c.self.view_is) stands in
    let inner = sym c.deref.ensures.value in
    let took =
    taken c.args.checker c.args.pass c.as_mut_slice.result.now c.self.inside.seen.items c.take_result.new.seen c.in-Some.place
    _ _ c.as_mut_slice.ensures.value c.in-Some-take_result.is c.take_result.ensures
    in
    let after = stands_after c.fifty_alone.ensures c.one_more_report.ensures zones checks reports _ old c.args.id c.args.checker c.args.pass place c.number_at-valve.result
    took.0 took.1 c.from.result c.take_count.new.self c.requires.checker
    (rw inner here.0) (rw inner here.1) numbered endpoint took.2 took.4.takes
    (λ n results h. c.from.ensures ∙ took.4.counts n results h)
    (c.take_count.ensures.fits old.net old.own old.fits) (c.take_count.ensures.meet old.net old.own old.fits old.ends old.meet) c.take_count.ensures.idle
    c.args.self.now.space in
    let check = at_place zones checks reports _ old c.args.id place (rw inner here.0) (rw inner here.1) in
    let was = (c.index_tells_health.ensures zones checks reports _ old).statuses c.args.id check.0 check.2 in
    let now = (c.index_tells_health.ensures zones checks _ _ after).statuses c.args.id check.0 check.2 in
    let first : valve_with c.self.inside.ids.items c.self.inside.numbers.items c.args.id ≡ c.number_at-valve.result =
    ap (slice_index c.self.inside.numbers.items) (rw inner here.1) ∙ number_is c.self.inside.numbers.items place c.number_at-valve.result numbered in
    let old_is = ap (value_of c.self.inside.valves) (sym first) ∙ was in
    let new_is = ap (value_of c.take_count.new.self) (sym first) ∙ now in
    let turned = c.take_count.ensures.changed old.net old.own old.fits old.ends old.meet in
    (λ t same. turned.0 t (new_is ∙ same ∙ sym old_is), λ differ. turned.1 (λ e. differ (sym new_is ∙ e ∙ old_is)))

pub returns-clause-other : goal.returns-clause-other
returns-clause-other g c zones checks reports stands never =
    let ids = ap (λ (i : Index). i.ids) (sym c.self.view_is) ∙ sym c.deref.ensures.value in
    let seen = ap (λ (i : Index). i.seen) (sym c.self.view_is) in
    let here = subst (IsPlace c.deref.result.now c.args.id) c.in-Some.is c.place_near.ensures in
    let took =
    taken c.args.checker c.args.pass c.as_mut_slice.result.now c.self.inside.seen.items c.take_result.new.seen c.in-Some.place
    _ _ c.as_mut_slice.ensures.value c.in-Some-take_result.is c.take_result.ensures
    in
    absurd (never (some_seen zones checks reports c.args.self.now stands c.args.id c.in-Some.place
    (rw ids here.0) (rw ids here.1) took.0 (rw seen took.2)))

pub returns-clause-cost : goal.returns-clause-cost
returns-clause-cost g c zones checks reports stands cone has =
    let place = c.in-Some.place in
    let within = slice_get_within c.deref.result.now c.in-Some.place c.args.id (subst (IsPlace c.deref.result.now c.args.id) c.in-Some.is c.place_near.ensures).0 in
    let ids_long = ap length c.deref.ensures.value in
    let many = c.self.invariant.numbers.as_many in
    let numbered = number_there _ c.in-Some.place c.number_at-valve.result (omega arith) (rw c.deref-2.ensures.value at c.number_at-valve.ensures) in
    let here = subst (IsPlace c.deref.result.now c.args.id) c.in-Some.is c.place_near.ensures in
    let old = subst (StandsFor zones checks reports) (sym c.self.view_is) stands in
    let inner = sym c.deref.ensures.value in
    few_steps zones checks reports _ old c.args.id place c.number_at-valve.result (rw inner here.0) (rw inner here.1) numbered cone has
    c.take_count.result c.args.steps.now c.take_count.new.steps c.take_count.ensures.quiet
    (λ turned. c.take_count.ensures.cone turned old.net old.own old.fits)
