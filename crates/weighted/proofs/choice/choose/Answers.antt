use Rattle.std.proofs.Common.{◌<◌, true, false, length, arith, sym}
use Rattle.weighted.specs.Line.{by_weight, rest_of_line}
use Rattle.weighted.proofs.Whole.{line_by_weight, some_where_laid, chosen_of}
use Rattle.weighted.proofs.choice.choose.Goals as goal

pub returns-then-weight-gt0 : goal.returns-then-weight-gt0
returns-then-weight-gt0 c =
    let weights = c.args.weights.now in
    let healthy = c.args.healthy.now in
    let some : 0 < length (rest_of_line (by_weight false) c.args.weights.now 0 c.args.healthy.now) =
    omega (arith, c.total-weight.ensures) in
    let is = sym (some_where_laid weights 0 healthy some) in
    chosen_of _ _ c.args.word _ _ _ (line_by_weight weights healthy true is some)
    c.total-weight.ensures c.point.ensures.exact c.place_at.ensures
