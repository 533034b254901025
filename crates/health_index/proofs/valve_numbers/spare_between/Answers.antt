use Rattle.std.proofs.Common.{◌≡◌, ◌<◌, ◌≤◌, ℕ, arith, refl, inl, inr, Some}
use Rattle.std.specs.Prelude.{slice_get}
use Rattle.std.proofs.lemmas.Bool.{cases_lt, false≢true}
use mathlib.Core.Path.{subst}
use Rattle.health_planning.specs.Wired.{IsSpare}
use Rattle.health_index.proofs.valve_numbers.spare_between.Goals as goal

some_same : {x y : ℕ} → Some x ≡ Some y → x ≡ y
some_same e = cc

pub loop-valve-init : goal.loop-valve-init
loop-valve-init c = record {
  least = omega arith;
  none = λ valve past early. absurd (omega arith);
}

pub returns-then-not-has_number-clause-found : goal.returns-then-not-has_number-clause-found
returns-then-not-has_number-clause-found c valve e =
    let early = c.loop-valve-test.true in
    let late = c.loop-valve.invariant.least in
    let most = c.requires in
    subst (λ (n : ℕ). (c.args.from ≤ n) × (n < c.args.to) × IsSpare c.args.numbers.now n) (some_same e)
    (omega arith, omega arith, (omega arith, λ place at. false≢true (c.if-not-has_number.ensures.1 (place, at))))

pub loop-valve-preserved : goal.loop-valve-preserved
loop-valve-preserved c =
    let i = c.loop-valve.invariant in
    let least = i.least in
    record {
      least = omega arith;
      none = λ valve past early. elim (cases_lt valve c.loop-valve.valve) [
        | inl before ↦ i.none valve past before
        | inr late ↦
            let same : c.loop-valve.valve ≡ valve = omega arith in
            subst (λ (n : ℕ). (place : ℕ) × (slice_get c.args.numbers.now place ≡ Some n)) same
            (c.if-not-has_number.ensures.0 refl)
      ];
    }

pub returns-clause-none : goal.returns-clause-none
returns-clause-none c e valve past early =
    let end = c.loop-valve-test.false in
    c.loop-valve.invariant.none valve past (omega arith)
