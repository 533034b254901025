use Rattle.std.proofs.Common.{◌≡◌, refl, arith, Some, subst, inl, inr}
use Rattle.std.specs.Prelude.{slice_get}
use Rattle.batch_model.specs.RecordSetRecord.{RecordSet}
use Rattle.batch_model.specs.Rules.{AreRivals}
use Rattle.zone_rules.proofs.Runs.{at_one, moved, up_to}
use Rattle.zone_rules.specs.Lent.{sets_lent}
use Rattle.zone_rules.proofs.places.is_place_taken.Goals as goal

pub returns-then-is_one_place : goal.returns-then-is_one_place
returns-then-is_one_place c =
    let within = c.requires.within in
    let sets = sets_lent c.args.sets.now in
    let k = c.loop-k.k in
    let below = c.loop-k-test.true in
    let x = c.set_at-in-loop-k.result.now in
    let y = c.set_at.result.now in
    let at_k : slice_get sets k ≡ Some x = c.set_at-in-loop-k.ensures in
    let at_i : slice_get sets c.args.i ≡ Some y = c.set_at.ensures in
    let from = c.loop-k.auto.k in
    let to = c.loop-k.auto.k-end in
    let start = c.requires.start.within in
    let place = c.is_one_place.ensures.0 c.if-is_one_place.true in (
      (λ t. (
        y,
        at_i,
        record {
          at = k;
          earlier = below;
          other = x;
          there = at_k;
          one_group =
              (c.requires.start.same k x y (omega (arith, below)) at_k at_i).0
              (omega (arith, from, to, start));
          one_place = place;
        },
      )),
      λ b. refl,
    )

pub loop-k-preserved : goal.loop-k-preserved
loop-k-preserved c j x y from lt at_j at_i place =
    let below = c.loop-k-test.true in
    let within = c.requires.within in
    let sets = sets_lent c.args.sets.now in
    let k = c.loop-k.k in
    let v = c.set_at-in-loop-k.result.now in
    let w = c.set_at.result.now in
    let at_k : slice_get sets k ≡ Some v = c.set_at-in-loop-k.ensures in
    let at_end : slice_get sets c.args.i ≡ Some w = c.set_at.ensures in
    let no_place = c.if-is_one_place.false in
    let yes = c.is_one_place.ensures.1 in
    elim (up_to j k (omega (arith, lt))) [
      | inl less ↦ c.loop-k.invariant j x y from less at_j at_i place
      | inr e ↦
          (let first : x ≡ v = at_one sets k x v (moved sets j k x e at_j) at_k in
          let second : y ≡ w = at_one sets c.args.i y w at_i at_end in
          let t = yes
          (subst (λ (s : RecordSet). AreRivals v.routing s.routing) second
          (subst (λ (s : RecordSet). AreRivals s.routing y.routing) first place)) in
          grind (arith, t, no_place))
    ]
