use Rattle.std.proofs.Common.{◌≡◌, inr, refl, subst, sym}
use Rattle.config_opening.specs.States.{State, config_of}
use Rattle.config_model.specs.Configs.{Config}
use Rattle.dump_run.proofs.Opened.{fault_leaves, fault_syncs, fault_told, fault_unwritten, opens_so}
use Rattle.dump_run.specs.Dumping.{DumpLeaves, DumpSyncs, IsTold, IsUnwritten}
use Rattle.dump_run.specs.declared.answers.Dumped.{Dumped}
use Rattle.dump_sending.specs.Dumps.{dump_text}
use Rattle.whole_writing.specs.Output.{OutputOf}
use Rattle.whole_writing.specs.declared.output.Output.{Output}
use Rattle.whole_writing.specs.declared.output.Output.TheVariants as output
use Rattle.dump_run.proofs.writing.dump_store.Goals as goal

pub returns-in-Err-clause-told : goal.returns-in-Err-clause-told
returns-in-Err-clause-told g c = λ x y a_reads b_reads.
    subst (λ (d : Dumped). IsTold d x y) (sym c.told_of.ensures.told)
    (fault_told c.no_store_or_config.ensures State x y c.in-Err.fault
    (c.in-Err.ensures.faulty x y a_reads b_reads))

pub returns-in-Err-clause-writes : goal.returns-in-Err-clause-writes
returns-in-Err-clause-writes g c = λ x y held config a_reads b_reads is opens.
    subst (λ (d : Dumped). DumpLeaves d held (g.K.Sink.held c.args.out.now) config)
    (sym c.told_of.ensures.told)
    (fault_leaves c.in-Err.fault held (g.K.Sink.held c.args.out.now) config is)

pub returns-in-Err-clause-unwritten : goal.returns-in-Err-clause-unwritten
returns-in-Err-clause-unwritten g c =
    subst (λ (d : Dumped). IsUnwritten d (c.args.out.now ≡ c.args.out.now))
    (sym c.told_of.ensures.told)
    (fault_unwritten c.in-Err.fault (c.args.out.now ≡ c.args.out.now) refl)

pub returns-in-Err-clause-syncs : goal.returns-in-Err-clause-syncs
returns-in-Err-clause-syncs g c = λ x y a_reads b_reads.
    subst (λ (d : Dumped). DumpSyncs g.D.Disk.images d x y c.args.a.now c.open.new.a c.args.b.now
    c.open.new.b) (sym c.told_of.ensures.told)
    (fault_syncs State g.D.Disk.images c.in-Err.fault x y c.args.a.now c.open.new.a c.args.b.now
    c.open.new.b (c.in-Err.ensures.syncs x y a_reads b_reads))

pub returns-clause-syncs : goal.returns-clause-syncs
returns-clause-syncs g c = λ x y a_reads b_reads. inr (c.in-Ok.ensures.syncs x y a_reads b_reads)

pub returns-in-Some-Whole-clause-told : goal.returns-in-Some-Whole-clause-told
returns-in-Some-Whole-clause-told g c = λ x y a_reads b_reads. (
  config_of c.in-Ok.kept,
  opens_so g.D.Disk.reading g.D.Disk.images g.D.Disk.moment g.D.Disk.images_since c.in-Ok.kept
      c.args.a.now c.open.new.a c.args.b.now c.open.new.b x y a_reads b_reads
      (c.in-Ok.ensures.a_unwritten x a_reads) (c.in-Ok.ensures.b_unwritten y b_reads)
      (c.in-Ok.ensures.holds x y a_reads b_reads),
)

pub returns-in-Some-Whole-clause-writes : goal.returns-in-Some-Whole-clause-writes
returns-in-Some-Whole-clause-writes g c = λ x y held config a_reads b_reads is opens.
    let kept = c.in-Ok.kept in
    let after = g.K.Sink.held c.write_kept.new.out in
    let its =
    opens_so g.D.Disk.reading g.D.Disk.images g.D.Disk.moment g.D.Disk.images_since kept c.args.a.now
    c.open.new.a c.args.b.now c.open.new.b x y a_reads b_reads
    (c.in-Ok.ensures.a_unwritten x a_reads) (c.in-Ok.ensures.b_unwritten y b_reads)
    (c.in-Ok.ensures.holds x y a_reads b_reads) in
    let same = c.pair_opens_to_one_config.ensures x y (config_of kept) config its opens in
    subst (λ (it : Config). OutputOf held after output.Whole (dump_text it)) same
    (subst (λ (o : Output). OutputOf held after o (dump_text (config_of kept)))
    c.in-Some-Whole.field-0-is (c.in-Some-Whole.ensures.writes held is))

pub returns-in-Some-Failed-clause-told : goal.returns-in-Some-Failed-clause-told
returns-in-Some-Failed-clause-told g c = λ x y a_reads b_reads. (
  config_of c.in-Ok.kept,
  opens_so g.D.Disk.reading g.D.Disk.images g.D.Disk.moment g.D.Disk.images_since c.in-Ok.kept
      c.args.a.now c.open.new.a c.args.b.now c.open.new.b x y a_reads b_reads
      (c.in-Ok.ensures.a_unwritten x a_reads) (c.in-Ok.ensures.b_unwritten y b_reads)
      (c.in-Ok.ensures.holds x y a_reads b_reads),
)

pub returns-in-Some-Failed-clause-writes : goal.returns-in-Some-Failed-clause-writes
returns-in-Some-Failed-clause-writes g c = λ x y held config a_reads b_reads is opens.
    let kept = c.in-Ok.kept in
    let after = g.K.Sink.held c.write_kept.new.out in
    let its =
    opens_so g.D.Disk.reading g.D.Disk.images g.D.Disk.moment g.D.Disk.images_since kept c.args.a.now
    c.open.new.a c.args.b.now c.open.new.b x y a_reads b_reads
    (c.in-Ok.ensures.a_unwritten x a_reads) (c.in-Ok.ensures.b_unwritten y b_reads)
    (c.in-Ok.ensures.holds x y a_reads b_reads) in
    let same = c.pair_opens_to_one_config.ensures x y (config_of kept) config its opens in
    subst (λ (it : Config). OutputOf held after output.Failed (dump_text it)) same
    (subst (λ (o : Output). OutputOf held after o (dump_text (config_of kept)))
    c.in-Some-Failed.field-0-is (c.in-Some-Failed.ensures.writes held is))
