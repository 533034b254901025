use Rattle.std.proofs.Common.{◌≡◌, ℕ, arith, ap, refl, ◌∙◌, inl, inr}
use mathlib.Core.Path.{subst}
use Rattle.std.proofs.lemmas.Bool.{cases_lt}
use Rattle.std.proofs.lemmas.Option.{slice_get_within}
use Rattle.policy_select.specs.Looking.{IsSetAt}
use Rattle.policy_select.specs.SetRefRecord.{SetRef}
use Rattle.policy_select.specs.Zones.{placed_in}
use Rattle.zone_model.proofs.Among.{among_at, place_of}
use Rattle.zone_model.specs.Slotted.{IsHere}
use Rattle.health_planning.proofs.ListedOnce.{told_at}
use Rattle.health_planning.proofs.Told.{seats_trans}
use Rattle.health_planning.proofs.seating.seat_each.Goals as goal

pub loop-i-init : goal.loop-i-init
loop-i-init c = record {
  within = omega arith;
  told = λ k p early at. absurd (omega arith);
  stays = λ p zone here told. told;
  each = λ slot. inl (refl, refl);
  groups = λ slot. refl;
  size = refl;
  room = refl;
}

pub loop-i-preserved : goal.loop-i-preserved
loop-i-preserved c =
    let zones = c.args.zones.now.zones in
    let i = c.loop-i.invariant in
    let o = c.seat_check.ensures in
    let t = told_at zones c.args.zone c.loop-i.i c.in-Some.set (subst (IsSetAt zones c.args.zone c.loop-i.i) c.in-Some.is c.at.ensures) in
    record {
      within = omega (arith, c.loop-i-test.true, c.count-i-end.ensures);
      told = λ k p before at. elim (cases_lt k c.loop-i.i) [
        | inl early ↦
            o.stays p c.args.zone (among_at (placed_in zones c.args.zone) k p at) (i.told k p early at)
        | inr late ↦
            let k_is : k ≡ c.loop-i.i = omega arith in
            let here_at = rw k_is at at in
            let its = t.its p here_at in
            let here = among_at (placed_in zones c.args.zone) c.loop-i.i p here_at in
            let zone_is = ap (λ (r : SetRef). r.zone) its.1 in
            o.told p (subst (λ (z : ℕ). IsHere (placed_in zones z) p) zone_is here) (ap (λ (r : SetRef). r.slot) its.1)
      ];
      stays = λ p zone here told. o.stays p zone here (i.stays p zone here told);
      each = λ slot. seats_trans _ _ _ slot zones (i.each slot) (o.each slot);
      groups = λ slot. o.groups slot ∙ i.groups slot;
      size = o.size ∙ i.size;
      room = o.room ∙ i.room;
    }

pub returns-clause-told : goal.returns-clause-told
returns-clause-told c p here =
    let zones = c.args.zones.now.zones in
    let k = place_of (placed_in zones c.args.zone) p here in
    let b = slice_get_within (placed_in zones c.args.zone) k.0 p k.1 in
    let end = c.loop-i-test.false in
    let count = c.count-i-end.ensures in
    c.loop-i.invariant.told k.0 p (omega arith) k.1

pub seat_check-requires-clause-slots : goal.seat_check-requires-clause-slots
seat_check-requires-clause-slots c = let same = c.loop-i.invariant.size in let slots = c.requires.slots in omega arith
