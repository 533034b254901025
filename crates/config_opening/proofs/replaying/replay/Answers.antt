use Rattle.std.proofs.Common.{◌∙◌, Bool, Ok, ap, arith}
use Rattle.std.specs.Prelude.{⊤}
use Rattle.config_opening.proofs.Replayed.{same_fault}
use Rattle.r53_disk.proofs.Moments.{rests_joined}
use Rattle.config_journal.specs.Opening.{IsNoStore}
use Rattle.config_opening.proofs.replaying.replay.Goals as goal

pub loop-fault-preserved : goal.loop-fault-preserved
loop-fault-preserved g c = record {
  reads_on = c.take_next.ensures.reads_on;
  replays = λ x y a_reads b_reads r. c.in-Ok-true.ensures.replays x y
      (c.loop-fault.invariant.a_rests.reads ∙ a_reads)
      (c.loop-fault.invariant.b_rests.reads ∙ b_reads)
      (c.loop-fault.invariant.replays x y a_reads b_reads r)
      (ap (λ (b : Bool). Ok b) c.in-Ok-true.field-0-test);
  a_rests = rests_joined c.loop-fault.invariant.a_rests c.take_next.ensures.a_rests;
  b_rests = rests_joined c.loop-fault.invariant.b_rests c.take_next.ensures.b_rests;
  a_counts = omega (arith, c.loop-fault.invariant.a_counts, c.take_next.ensures.a_counts);
  b_counts = omega (arith, c.loop-fault.invariant.b_counts, c.take_next.ensures.b_counts);
}

pub returns-in-Ok-false-clause-holds : goal.returns-in-Ok-false-clause-holds
returns-in-Ok-false-clause-holds g c = λ x y a_reads b_reads r.
    c.in-Ok-false.ensures.holds x y (c.loop-fault.invariant.a_rests.reads ∙ a_reads)
    (c.loop-fault.invariant.b_rests.reads ∙ b_reads)
    (c.loop-fault.invariant.replays x y a_reads b_reads r)
    (ap (λ (b : Bool). Ok b) c.in-Ok-false.field-0-test)

pub returns-in-Err-clause-faulty : goal.returns-in-Err-clause-faulty
returns-in-Err-clause-faulty g c = λ x y a_reads b_reads r.
    same_fault Bool ⊤ (IsNoStore x y) c.in-Err.fault
    (c.in-Err.ensures.faulty x y (c.loop-fault.invariant.a_rests.reads ∙ a_reads)
    (c.loop-fault.invariant.b_rests.reads ∙ b_reads)
    (c.loop-fault.invariant.replays x y a_reads b_reads r))
