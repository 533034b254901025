use Rattle.std.proofs.Common.{ap, take, ◌∙◌}
use Rattle.line_splitting.proofs.Turns.{line_taken}
use Rattle.line_splitting.proofs.reader.LineReader.take_line.Goals as goal

pub returns-clause-takes : goal.returns-clause-takes
returns-clause-takes c =
    line_taken _ c.args.self.now c.pass.new.self c.args.place c.judge-told.result c.front.result.now
    c.self.view_is c.pass.ensures c.requires.place
    (c.front.ensures ∙ ap (take c.args.place) c.waiting.ensures) c.judge-told.ensures
