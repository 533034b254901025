use Rattle.line_splitting.proofs.Turns.{leaves_after}
use Rattle.line_splitting.proofs.reader.LineReader.next.Goals as goal

pub returns-in-Nothing-clause-leaves : goal.returns-in-Nothing-clause-leaves
returns-in-Nothing-clause-leaves g c = λ left h.
    leaves_after c.args.self.now c.take_ready.new.self left c.read_on.result c.read_on.new.self _
    c.in-Nothing.ensures.takes (c.read_on.ensures.leaves left h)
