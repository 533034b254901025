use Rattle.checker_state.proofs.Rows.{one_view}
use Rattle.checker_state.proofs.laws.one_view.Goals as goal

pub returns : goal.returns
returns c n results a b some = one_view n some results a b
