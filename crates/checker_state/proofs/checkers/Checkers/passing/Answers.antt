use Rattle.std.proofs.Common.{ap, ◌∙◌}
use Rattle.std.specs.List.{count_by}
use Rattle.checker_state.specs.Standing.{numbers, kept}
use Rattle.checker_state.specs.declared.checker.Checker.{Checker}
use Rattle.checker_state.proofs.Fifty.{count_by-map, counted_few}
use Rattle.checker_state.proofs.Standing.{cells_are}
use Rattle.checker_state.proofs.checkers.Checkers.passing.Goals as goal

pub returns-clause-exact : goal.returns-clause-exact
returns-clause-exact c n results stands =
    let cells =
    cells_are n results c.self.inside.threshold c.self.inside.checkers (c.self.view_is
    ∙ stands) in
    c.self.invariant.2
    ∙ (ap (count_by (λ (x : Checker). x.view)) cells
    ∙ count_by-map (λ (x : Checker). x.view) (λ k. kept n (results k)) numbers)

pub returns-clause-most : goal.returns-clause-most
returns-clause-most c =
    counted_few (λ (x : Checker). x.view) c.self.inside.checkers 50 c.self.inside.passing c.self.invariant.1 c.self.invariant.2
