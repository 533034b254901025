use Rattle.std.proofs.Common.{◌++◌, ◌∙◌, ap, arith}
use Rattle.std.specs.List.{flat_map}
use Rattle.set_parts.specs.Octets.{value_octets}
use Rattle.set_scratch.proofs.Told.{none_left, one_behind}
use Rattle.set_scratch.proofs.telling.behind_values.Goals as goal

pub loop-preserved : goal.loop-preserved
loop-preserved c = λ values rest many is.
    let test = c.loop-test.true in
    one_behind values c.loop.counter rest c.loop.left.now c.behind_value-left.result.now
    (omega (arith, test, many)) (c.loop.invariant values rest many is) c.behind_value-left.ensures

pub returns : goal.returns
returns c = λ values rest many is.
    let test = c.loop-test.false in
    c.loop.invariant values rest many is
    ∙ ap (λ vs. flat_map value_octets vs ++ rest) (none_left values c.loop.counter (omega (arith, test, many)))
