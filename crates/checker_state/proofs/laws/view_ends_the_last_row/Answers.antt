use Rattle.checker_state.proofs.Rows.{view_is}
use Rattle.checker_state.proofs.laws.view_ends_the_last_row.Goals as goal

pub returns : goal.returns
returns c n results some = view_is n some results
