use Rattle.line_bounds.proofs.Lines.{are_bounded}
use Rattle.line_bounds.proofs.laws.lines_are_bounded.Goals as goal

pub returns : goal.returns
returns c =
    are_bounded c.texts_read_as_names.ensures c.texts_are_values.ensures
    c.texts_are_prefixes.ensures
