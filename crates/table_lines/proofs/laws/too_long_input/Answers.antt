use Rattle.line_splitting.specs.Lines.{input_limit}
use Rattle.table_lines.specs.Input.{no_rows}
use Rattle.table_lines.proofs.Outcomes.{too_long}
use Rattle.table_lines.proofs.laws.too_long_input.Goals as goal

pub returns : goal.returns
returns c = too_long input_limit no_rows
