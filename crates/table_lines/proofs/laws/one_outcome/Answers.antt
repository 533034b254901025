use Rattle.std.proofs.Common.{sym, ◌∙◌}
use Rattle.table_lines.proofs.Outcomes.{told}
use Rattle.table_lines.proofs.laws.one_outcome.Goals as goal

pub returns : goal.returns
returns c = λ input after other_after answer other reads other_reads is_told other_told.
    sym (told input after answer reads is_told) ∙ told input other_after other other_reads other_told
