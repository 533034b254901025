use Rattle.std.proofs.Common.{◌≡◌, ◌<◌, ℕ, arith, ap, refl, sym, ◌∙◌, inl, inr, length}
use Rattle.std.proofs.lemmas.Bool.{cases_eq, cases_lt}
use Rattle.std.proofs.lemmas.Option.{get_or_from_slice_get, slice_get-get_or, slice_get_within}
use Rattle.std.specs.Prelude.{slice_index_or}
use mathlib.Core.Path.{subst}
use Rattle.policy_select.specs.SetRefRecord.{SetRef}
use Rattle.health_planning.specs.Wired.{set_seat}
use Rattle.health_planning.proofs.Told.{on_trans}
use Rattle.health_planning.proofs.seating.clear_gone.Goals as goal

pub loop-set-init : goal.loop-set-init
loop-set-init c = record {
  here = λ k set early at. absurd (omega arith);
  others = λ slot. inr (refl, refl);
  groups = λ slot. refl;
  size = refl;
  room = refl;
}

pub loop-set-preserved : goal.loop-set-preserved
loop-set-preserved c =
    let gone = c.args.gone.now in
    let i = c.loop-set.invariant in
    let o = c.clear_set.ensures in
    let none : SetRef = record { zone = 0; slot = 0 } in
    let now : SetRef = slice_index_or gone c.loop-set.set-index none in
    let within : c.loop-set.set-index < length gone = c.loop-set-test.true in
    record {
      here = λ k set early at. elim (cases_eq set.slot now.slot) [
        | inl same ↦ ap (set_seat c.clear_set.new.seats.items) same ∙ o.here
        | inr apart ↦ elim (cases_lt k c.loop-set.set-index) [
          | inl before ↦ (o.others set.slot apart).0 ∙ i.here k set before at
          | inr late ↦
              let k_is : k ≡ c.loop-set.set-index = omega arith in
              let e = get_or_from_slice_get gone c.loop-set.set-index set none (rw k_is at at) in
              absurd (apart (ap (λ (s : SetRef). s.slot) (sym e)))
        ]
      ];
      others = λ slot. elim (cases_eq slot now.slot) [
        | inl same ↦ inl (c.loop-set.set-index, (now, (slice_get-get_or gone c.loop-set.set-index none within, sym same)))
        | inr apart ↦ elim (i.others slot) [
          | inl told ↦ inl told
          | inr on ↦ inr (on_trans _ _ _ slot on (o.others slot apart))
        ]
      ];
      groups = λ slot. o.groups slot ∙ i.groups slot;
      size = o.size ∙ i.size;
      room = o.room ∙ i.room;
    }

pub returns-clause-here : goal.returns-clause-here
returns-clause-here c slot told =
    let within = slice_get_within c.args.gone.now told.0 told.1.0 told.1.1.0 in
    let end = c.loop-set-test.false in
    subst (λ (n : ℕ). set_seat c.loop-set.seats.items n ≡ 0) told.1.1.1
    (c.loop-set.invariant.here told.0 told.1.0 (omega arith) told.1.1.0)
