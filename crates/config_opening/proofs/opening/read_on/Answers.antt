use Rattle.std.proofs.Common.{◌∙◌, Err, ap, subst, sym}
use Rattle.std.specs.Prelude.{⊤}
use Rattle.config_journal.specs.Holding.{Holds}
use Rattle.config_journal.specs.States.{State}
use Rattle.config_opening.proofs.Opened.{at_first_gate, baseless_faulty}
use Rattle.config_opening.proofs.Replayed.{same_fault}
use Rattle.config_journal.specs.Kept.{State as Kept, config_in}
use Rattle.config_opening.specs.Opening.{Replays}
use Rattle.config_journal.specs.SnapshotFaultRecord.{SnapshotFault}
use Rattle.config_journal.specs.Opening.{IsNoStore}
use Rattle.zone_journal.specs.Pairs.{BothRead}
use Rattle.config_opening.proofs.opening.read_on.Goals as goal

pub returns-in-Err-Bad-clause-faulty : goal.returns-in-Err-Bad-clause-faulty
returns-in-Err-Bad-clause-faulty g c = λ x y a_reads b_reads begins.
    subst (λ s. IsNoStore x y s 20) (sym c.side.ensures)
    (baseless_faulty c.baseless_is_no_store.ensures c.args.journal c.args.octets.now x y begins
    (c.in-Err-Bad.ensures.bad (ap (λ (f : SnapshotFault). Err f) c.in-Err-Bad.field-0-is)))

pub returns-in-Ok-replay-clause-holds : goal.returns-in-Ok-replay-clause-holds
returns-in-Ok-replay-clause-holds g c = λ x y a_reads b_reads begins.
    subst (λ (kept : State). BothRead g.D.Disk.reading c.replay.new.a c.replay.new.b (Holds kept))
    (sym (c.new.ensures ∙ ap (λ (k : Kept). record { config = k; journal = c.replay.new.journal })
    c.settle_hints.ensures))
    (c.in-Ok-replay.ensures.holds x y a_reads b_reads
    (subst (λ (k : Kept). Replays c.args.journal (config_in k) x y) (sym c.put_hints_off.ensures)
    (at_first_gate c.args.journal c.args.octets.now x y begins (config_in c.in-Ok.config)
    c.in-Ok.ensures.found)))

pub returns-in-Err-clause-faulty : goal.returns-in-Err-clause-faulty
returns-in-Err-clause-faulty g c = λ x y a_reads b_reads begins.
    same_fault ⊤ State (IsNoStore x y) c.in-Err.fault
    (c.in-Err.ensures.faulty x y a_reads b_reads
    (subst (λ (k : Kept). Replays c.args.journal (config_in k) x y) (sym c.put_hints_off.ensures)
    (at_first_gate c.args.journal c.args.octets.now x y begins (config_in c.in-Ok.config)
    c.in-Ok.ensures.found)))
