use Rattle.std.proofs.Common.{arith}
use Rattle.std.proofs.lemmas.Grind.{common_steps}
use Rattle.line_splitting.proofs.Windows.{read_in}
use Rattle.table_lines.proofs.buffer.read_behind.Goals as goal

pub returns-clause-takes : goal.returns-clause-takes
returns-clause-takes g c = λ left h.
    read_in left c.args.buffer.now _ c.read.new.into _ c.read.result c.args.at _
    (omega (arith, c.requires.room)) (grind (arith, common_steps, c.requires.room, c.requires.some, c.min-room.ensures))
    (c.read.auto.into) (c.read.ensures.gives left h) c.read.ensures.within
