use Rattle.line_splitting.specs.Lines.{input_limit}
use Rattle.table_lines.specs.Input.{no_rows}
use Rattle.table_lines.proofs.Outcomes.{whole}
use Rattle.table_lines.proofs.laws.whole_input.Goals as goal

pub returns : goal.returns
returns c = whole input_limit no_rows
