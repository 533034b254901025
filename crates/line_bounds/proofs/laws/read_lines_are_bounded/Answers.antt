use Rattle.line_bounds.proofs.Lines.{read_are_bounded}
use Rattle.line_bounds.proofs.laws.read_lines_are_bounded.Goals as goal

pub returns : goal.returns
returns c = read_are_bounded c.lines_are_bounded.ensures
