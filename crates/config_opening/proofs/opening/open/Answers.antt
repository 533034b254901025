use Rattle.std.proofs.Common.{◌∙◌, List, ℕ, subst, sym}
use Rattle.config_opening.proofs.Opened.{both_on, broken_faulty, syncs_on}
use Rattle.config_opening.specs.Opening.{IsAtFirstGate}
use Rattle.config_opening.proofs.opening.open.Goals as goal

pub returns-in-Err-clause-faulty : goal.returns-in-Err-clause-faulty
returns-in-Err-clause-faulty g c = λ x y a_reads b_reads.
    broken_faulty c.broken_is_no_store.ensures x y c.in-Err.fault
    (c.in-Err.ensures.gives x y a_reads b_reads)

pub returns-in-Ok-clause-holds : goal.returns-in-Ok-clause-holds
returns-in-Ok-clause-holds g c = λ x y a_reads b_reads.
    c.read_on.ensures.holds x y ((c.open.ensures.a_unwritten x a_reads).reads ∙ a_reads)
    ((c.open.ensures.b_unwritten y b_reads).reads ∙ b_reads)
    (subst (λ (l : List ℕ). IsAtFirstGate c.in-Ok.journal l x y) (sym c.deref.ensures.value)
    (c.in-Ok.ensures.gives x y a_reads b_reads))

pub returns-in-Ok-clause-faulty : goal.returns-in-Ok-clause-faulty
returns-in-Ok-clause-faulty g c = λ x y a_reads b_reads.
    c.read_on.ensures.faulty x y ((c.open.ensures.a_unwritten x a_reads).reads ∙ a_reads)
    ((c.open.ensures.b_unwritten y b_reads).reads ∙ b_reads)
    (subst (λ (l : List ℕ). IsAtFirstGate c.in-Ok.journal l x y) (sym c.deref.ensures.value)
    (c.in-Ok.ensures.gives x y a_reads b_reads))

pub returns-in-Ok-clause-syncs : goal.returns-in-Ok-clause-syncs
returns-in-Ok-clause-syncs g c = λ x y a_reads b_reads.
    syncs_on g.D.Disk.reading g.D.Disk.images g.D.Disk.moment g.D.Disk.images_since
    c.read_on.result x y c.args.a.now c.read_on.new.a c.args.b.now c.read_on.new.b
    (both_on g.D.Disk.reading g.D.Disk.images g.D.Disk.moment g.D.Disk.images_since x y
    c.open.new.a c.read_on.new.a c.open.new.b c.read_on.new.b c.read_on.ensures.a_rests
    c.read_on.ensures.b_rests (c.in-Ok.ensures.syncs x y a_reads b_reads))
