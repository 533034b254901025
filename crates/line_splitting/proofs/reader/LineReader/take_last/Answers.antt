use Rattle.std.proofs.Common.{refl}
use Rattle.line_splitting.proofs.Turns.{last_taken}
use Rattle.line_splitting.proofs.reader.LineReader.take_last.Goals as goal

pub returns-clause-takes : goal.returns-clause-takes
returns-clause-takes c =
    last_taken _ c.args.self.now c.pass.new.self _ c.judge-told.result c.waiting-waiting.result.now
    c.self.view_is c.pass.ensures refl c.requires.no_end c.requires.ended
    c.waiting-waiting.ensures c.judge-told.ensures
