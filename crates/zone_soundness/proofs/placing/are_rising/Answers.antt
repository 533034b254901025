use Rattle.std.proofs.Common.{◌∙◌, sym}
use Rattle.std.proofs.lemmas.Bool.{false≢true}
use Rattle.zone_soundness.proofs.Answered.{is, isnt}
use Rattle.zone_soundness.proofs.Rising.{above_before, next_too, rises}
use Rattle.zone_soundness.proofs.placing.are_rising.Goals as goal

pub returns-then-not-is_before : goal.returns-then-not-is_before
returns-then-not-is_before c =
    isnt (λ rising. false≢true (sym c.if-not-is_before.true ∙ c.is_before.ensures.1
    (above_before c.args.sets.now c.loop-i.i c.index-sets-i.result c.index-sets-i-in-loop-i.result
    c.loop-i.auto.i c.loop-i-test.true c.index-sets-i.is c.index-sets-i-in-loop-i.is rising)))

pub loop-i-preserved : goal.loop-i-preserved
loop-i-preserved c =
    next_too c.args.sets.now c.loop-i.i c.index-sets-i.result c.index-sets-i-in-loop-i.result
    c.loop-i.auto.i c.loop-i-test.true c.index-sets-i.is c.index-sets-i-in-loop-i.is
    (c.is_before.ensures.0 c.if-not-is_before.false) c.loop-i.invariant

pub returns : goal.returns
returns c = is (rises c.args.sets.now c.loop-i.i c.loop-i-test.false c.loop-i.invariant)
