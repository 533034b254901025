use Rattle.checker_state.proofs.Rows.{row_turns, no_row_stays}
use Rattle.checker_state.proofs.laws.one_more_result.Goals as goal

pub returns : goal.returns
returns c = record { turns = row_turns; stays = no_row_stays }
