use Rattle.std.proofs.Common.{◌≡◌, arith, refl, inl, inr}
use Rattle.std.proofs.lemmas.Bool.{cases_lt}
use Rattle.std.proofs.lemmas.Option.{get_or_from_slice_get, slice_get_within}
use mathlib.Core.Path.{subst}
use Rattle.health_planning.specs.Building.{IsFree}
use Rattle.health_planning.specs.SetRefRecord.{SetRef}
use Rattle.health_standing.proofs.valve_leaving.all_went_beside.Goals as goal

pub loop-set-preserved : goal.loop-set-preserved
loop-set-preserved c k ref early at = elim (cases_lt k c.loop-set.set-index) [
  | inl before ↦ c.loop-set.invariant k ref before at
  | inr late ↦
      let k_is : k ≡ c.loop-set.set-index = omega arith in
      let e = get_or_from_slice_get c.args.removed.now c.loop-set.set-index ref (record { zone = 0; slot = 0 }) (rw k_is at at) in
      subst (λ (r : SetRef). IsFree c.args.seats.now r.slot) e (c.if-not-is_free.ensures.0 refl)
]

pub returns : goal.returns
returns c = (
  λ t k ref at.
      let within = slice_get_within c.args.removed.now k ref at in
      let end = c.loop-set-test.false in
      c.loop-set.invariant k ref (omega arith) at,
  λ all. refl,
)
