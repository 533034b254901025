use Rattle.std.proofs.Common.{◌∙◌, ◌-◌, length, drop, subst, arith, length-drop, length-take-le}
use Rattle.gate_journal.specs.Disk.{GivesBytes}
use Rattle.file_building.proofs.PartLemmas.{end_read}
use Rattle.file_building.proofs.parts.read_behind.Goals as goal

pub returns-clause-bytes : goal.returns-clause-bytes
returns-clause-bytes g c = λ whole bytes told.
    end_read c.args.piece.now c.read_at.new.into bytes c.args.filled c.args.at c.requires.within
    (c.read_at.auto.into
    ∙ length-take-le (length c.args.piece.now - c.args.filled)
    (drop c.args.filled c.args.piece.now)
    (omega (arith, length-drop c.args.filled c.args.piece.now)))
    (subst (λ r. GivesBytes r bytes c.args.at c.read_at.new.into) whole
    (c.read_at.ensures.bytes bytes told))
