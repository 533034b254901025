use Rattle.std.proofs.Common.{◌<◌, ◌∙◌, length, arith, length-set}
use Rattle.checker_state.specs.declared.checker.Checker.{Checker}
use Rattle.checker_state.proofs.Fifty.{counted_few, counted_on}
use Rattle.checker_state.proofs.Standing.{kept_there, view_there, view_now, one_more, differ}
use Rattle.checker_state.proofs.checkers.Checkers.report.Goals as goal

pub returns-clause-stands : goal.returns-clause-stands
returns-clause-stands c n results stands =
    let t = c.self.inside.threshold in
    let cells = c.self.inside.checkers in
    let i = c.args.checker in
    let at_first = c.self.view_is ∙ stands in
    let before =
    kept_there n results t cells at_first c.from-at.result i c.from-at.ensures c.requires _ in
    one_more n results t cells at_first c.from-at.result i c.from-at.ensures c.requires c.args.pass
    _ (c.after-after.ensures (results i) before)

pub returns-clause-changed : goal.returns-clause-changed
returns-clause-changed c n results stands =
    let t = c.self.inside.threshold in
    let cells = c.self.inside.checkers in
    let i = c.args.checker in
    let at_first = c.self.view_is ∙ stands in
    let before =
    kept_there n results t cells at_first c.from-at.result i c.from-at.ensures c.requires _ in
    differ _ _ _ _
    (view_now n results t cells at_first c.from-at.result i c.from-at.ensures c.requires c.args.pass
    _ (c.after-after.ensures (results i) before))
    (view_there n results t cells at_first c.from-at.result i c.from-at.ensures c.requires _)

pub passing_after-self-inside-requires-clause-few : goal.passing_after-self-inside-requires-clause-few
passing_after-self-inside-requires-clause-few c =
    counted_few (λ (x : Checker). x.view) c.self.inside.checkers 50 c.self.inside.passing c.self.invariant.1 c.self.invariant.2

pub invariant_of-self : goal.invariant_of-self
invariant_of-self c =
    let is = c.self.invariant in
    let cells = c.self.inside.checkers in
    let at = c.from-at.result in
    let within : at < length cells = omega (arith, is.1, c.from-at.ensures, c.requires) in (
      is.0,
      length-set cells at c.after-after.result ∙ is.1,
      counted_on (λ (x : Checker). x.view) cells at c.after-after.result _ _ _ within is.2 c.passing_after-self-inside.ensures,
    )
