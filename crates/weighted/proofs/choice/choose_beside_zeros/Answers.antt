use Rattle.std.proofs.Common.{◌<◌, true, false, length, arith, ap, sym, ◌∙◌}
use Rattle.weighted.specs.Line.{at_word, by_weight, rest_of_line}
use Rattle.weighted.proofs.Whole.{line_by_weight, line_even, some_even, chosen_of}
use Rattle.weighted.proofs.choice.choose_beside_zeros.Goals as goal

pub choose_evenly-requires-clause-some : goal.choose_evenly-requires-clause-some
choose_evenly-requires-clause-some c =
    some_even c.args.weights.now c.args.healthy.now true (sym c.if-some_healthy.true
    ∙ c.some_healthy.ensures) c.requires.some

pub returns-then-some_healthy : goal.returns-then-some_healthy
returns-then-some_healthy c =
    let e = line_even c.args.weights.now c.args.healthy.now true (sym c.if-some_healthy.true
    ∙ c.some_healthy.ensures) c.requires.zeros in
    c.choose_evenly.ensures ∙ ap (λ l. at_word l c.args.word) e

pub returns-then-weight-gt0 : goal.returns-then-weight-gt0
returns-then-weight-gt0 c =
    let some : 0 < length (rest_of_line (by_weight true) c.args.weights.now 0 c.args.healthy.now) =
    omega (arith, c.total-weight.ensures) in
    let e = line_by_weight c.args.weights.now c.args.healthy.now false (sym c.if-some_healthy.false
    ∙ c.some_healthy.ensures) some in
    chosen_of _ _ c.args.word _ _ _ e c.total-weight.ensures c.point.ensures.exact
    c.place_at.ensures

pub choose_evenly-requires-2-clause-some : goal.choose_evenly-requires-2-clause-some
choose_evenly-requires-2-clause-some c =
    some_even c.args.weights.now c.args.healthy.now false (sym c.if-some_healthy.false
    ∙ c.some_healthy.ensures) c.requires.some

pub returns : goal.returns
returns c =
    let e = line_even c.args.weights.now c.args.healthy.now false (sym c.if-some_healthy.false
    ∙ c.some_healthy.ensures) (omega (arith, c.total-weight.ensures)) in
    c.choose_evenly-2.ensures ∙ ap (λ l. at_word l c.args.word) e
