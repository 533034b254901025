use Rattle.line_bounds.proofs.Lines.{counts_are_some}
use Rattle.line_bounds.proofs.laws.read_counts_are_some.Goals as goal

pub returns : goal.returns
returns c =
    counts_are_some c.texts_read_as_names.ensures c.texts_are_values.ensures
    c.texts_are_prefixes.ensures
