use Rattle.std.proofs.Common.{◌∙◌}
use Rattle.checker_state.proofs.Standing.{view_there}
use Rattle.checker_state.proofs.checkers.Checkers.view.Goals as goal

pub returns : goal.returns
returns c n results stands =
    let t = c.self.inside.threshold in
    let cells = c.self.inside.checkers in
    view_there n results t cells (c.self.view_is
    ∙ stands) c.from.result c.args.checker c.from.ensures c.requires _
