use Rattle.std.proofs.Common.{◌≡◌, ◌<◌, arith, ap, refl, sym, ◌∙◌, inl, inr, length}
use Rattle.std.proofs.lemmas.Bool.{cases_eq, cases_lt}
use Rattle.std.proofs.lemmas.Option.{get_or_from_slice_get, slice_get-get_or, slice_get_within}
use Rattle.std.specs.Prelude.{slice_index_or}
use mathlib.Core.Path.{subst}
use Rattle.policy_select.specs.SetRefRecord.{SetRef}
use Rattle.policy_select.specs.Zones.{placed_in}
use Rattle.zone_model.specs.Slotted.{IsHere}
use Rattle.health_planning.proofs.Told.{on_trans, seats_trans}
use Rattle.health_planning.proofs.seating.seat_those.Goals as goal

pub loop-set-init : goal.loop-set-init
loop-set-init c = record {
  told = λ k set p early at here same. absurd (omega arith);
  stays = λ p zone here told. told;
  others = λ slot. inr (refl, refl);
  each = λ slot. inl (refl, refl);
  groups = λ slot. refl;
  size = refl;
  room = refl;
}

pub loop-set-preserved : goal.loop-set-preserved
loop-set-preserved c =
    let zones = c.args.zones.now.zones in
    let those = c.args.those.now in
    let i = c.loop-set.invariant in
    let o = c.seat_check.ensures in
    let none : SetRef = record { zone = 0; slot = 0 } in
    let now : SetRef = slice_index_or those c.loop-set.set-index none in
    let within : c.loop-set.set-index < length those = c.loop-set-test.true in
    record {
      told = λ k set p early at here same. elim (cases_lt k c.loop-set.set-index) [
        | inl before ↦ o.stays p set.zone here (i.told k set p before at here same)
        | inr late ↦
            let k_is : k ≡ c.loop-set.set-index = omega arith in
            let e = get_or_from_slice_get those c.loop-set.set-index set none (rw k_is at at) in
            o.told p (subst (λ (s : SetRef). IsHere (placed_in zones s.zone) p) (sym e) here)
            (same ∙ ap (λ (s : SetRef). s.slot) (sym e))
      ];
      stays = λ p zone here told. o.stays p zone here (i.stays p zone here told);
      others = λ slot. elim (cases_eq slot now.slot) [
        | inl same ↦ inl (c.loop-set.set-index, (now, (slice_get-get_or those c.loop-set.set-index none within, sym same)))
        | inr apart ↦ elim (i.others slot) [
          | inl told ↦ inl told
          | inr on ↦ inr (on_trans _ _ _ slot on (o.others slot apart))
        ]
      ];
      each = λ slot. seats_trans _ _ _ slot zones (i.each slot) (o.each slot);
      groups = λ slot. o.groups slot ∙ i.groups slot;
      size = o.size ∙ i.size;
      room = o.room ∙ i.room;
    }

pub returns-clause-told : goal.returns-clause-told
returns-clause-told c set p listed here same =
    let within = slice_get_within c.args.those.now listed.0 set listed.1 in
    let end = c.loop-set-test.false in
    c.loop-set.invariant.told listed.0 set p (omega arith) listed.1 here same

pub seat_check-requires-clause-slots : goal.seat_check-requires-clause-slots
seat_check-requires-clause-slots c = let same = c.loop-set.invariant.size in let slots = c.requires.slots in omega arith
