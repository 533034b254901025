use Rattle.line_bounds.proofs.Lines.{lists_are_asked}
use Rattle.line_bounds.proofs.laws.read_lists_are_asked.Goals as goal

pub returns : goal.returns
returns c =
    lists_are_asked c.texts_read_as_names.ensures c.texts_are_values.ensures
    c.texts_are_prefixes.ensures
