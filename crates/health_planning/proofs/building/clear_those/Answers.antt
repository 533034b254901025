use Rattle.std.proofs.Common.{◌≡◌, arith, refl, ◌∙◌, inl, inr}
use Rattle.std.proofs.lemmas.Bool.{cases_lt}
use Rattle.std.proofs.lemmas.Option.{get_or_from_slice_get, slice_get_within}
use mathlib.Core.Path.{subst}
use Rattle.policy_select.specs.SetRefRecord.{SetRef}
use Rattle.health_planning.specs.Building.{IsFree}
use Rattle.health_planning.proofs.Told.{keeps_trans}
use Rattle.health_planning.proofs.building.clear_those.Goals as goal

pub loop-set-preserved : goal.loop-set-preserved
loop-set-preserved c =
    let i = c.loop-set.invariant in
    let o = c.clear_one.ensures in
    record {
      cleared = λ k set early at. elim (cases_lt k c.loop-set.set-index) [
        | inl before ↦ o.free set.slot (i.cleared k set before at)
        | inr late ↦
            let k_is : k ≡ c.loop-set.set-index = omega arith in
            let e = get_or_from_slice_get c.args.those.now c.loop-set.set-index set (record { zone = 0; slot = 0 }) (rw k_is at at) in
            subst (λ (s : SetRef). IsFree c.clear_one.new.seats.items s.slot) e o.here
      ];
      free = λ slot free. o.free slot (i.free slot free);
      checks = λ slot. keeps_trans _ _ _ slot (i.checks slot) (o.checks slot);
      size = o.size ∙ i.size;
      room = o.room ∙ i.room;
    }

pub returns-clause-cleared : goal.returns-clause-cleared
returns-clause-cleared c slot told =
    let within = slice_get_within c.args.those.now told.0 told.1.0 told.1.1.0 in
    let end = c.loop-set-test.false in
    subst (IsFree c.loop-set.seats.items) told.1.1.1
    (c.loop-set.invariant.cleared told.0 told.1.0 (omega arith) told.1.1.0)

pub loop-set-init : goal.loop-set-init
loop-set-init c = record {
  cleared = λ k set early at. absurd (omega arith);
  free = λ slot free. free;
  checks = λ slot. inl (refl, refl);
  size = refl;
  room = refl;
}
