use Rattle.std.proofs.Common.{◌≡◌, ◌-◌, ◌+◌, refl, arith, subst, inl, inr}
use Rattle.batch_model.specs.Zones.{AreOneGroup}
use Rattle.zone_rules.proofs.FullGroups.{filled}
use Rattle.zone_rules.proofs.Runs.{goes_on, begins, at_one, moved}
use Rattle.zone_rules.specs.Lent.{sets_lent}
use Rattle.zone_rules.proofs.groups.start_of.Goals as goal
use Rattle.zone_rules.proofs.groups.start_of.Goals.{else-i-gt0-via-then-i-gt0+else-is_one_group, else-i-gt0-via-else-i-gt0}

pub returns-then-is_one_group : goal.returns-then-is_one_group
returns-then-is_one_group c =
    let within = c.requires.within in
    let positive = c.if-i-gt0.true in
    let x = c.set_at in
    let y = c.set_at-then-i-gt0 in
    let next : (c.args.i - 1) + 1 ≡ c.args.i = omega (arith, positive) in
    record {
      start = goes_on (sets_lent c.args.sets.now) c.args.start (c.args.i - 1) c.args.i x.result.now y.result.now next
          x.ensures y.ensures
          (c.is_one_group.ensures.0 c.if-is_one_group.true)
          (c.requires.before (c.args.i - 1) next);
      which = inl refl;
    }

pub returns : goal.returns
returns c = record {
  start = begins (sets_lent c.args.sets.now) c.args.i c.requires.rising
      (λ j v w next at_j at_i g.
      let within = c.requires.within in
      elim c.else-i-gt0.branch [
        | else-i-gt0-via-then-i-gt0+else-is_one_group t ↦
            (let x = t.set_at in
            let y = t.set_at-then-i-gt0 in
            let positive = t.if-i-gt0.true in
            let same : c.args.i - 1 ≡ j = omega (arith, next) in
            let first : v ≡ x.result.now =
            at_one (sets_lent c.args.sets.now) j v x.result.now at_j
            (moved (sets_lent c.args.sets.now) (c.args.i - 1) j x.result.now same
            x.ensures) in
            let second : w ≡ y.result.now =
            at_one (sets_lent c.args.sets.now) c.args.i w y.result.now at_i y.ensures in
            let yes =
            t.is_one_group.ensures.1
            (subst (λ s. AreOneGroup x.result.now s) second (subst (λ s. AreOneGroup s w) first g))
            in
            let no_group = t.if-is_one_group.false in
            absurd (grind (arith, yes, no_group)))
        | else-i-gt0-via-else-i-gt0 t ↦
            (let zero = t.if-i-gt0.false in absurd (omega (arith, zero, next)))
      ])
      (λ j next. filled (sets_lent c.args.sets.now) j (let within = c.requires.within in
      omega (arith, within, next)));
  which = inr refl;
}
