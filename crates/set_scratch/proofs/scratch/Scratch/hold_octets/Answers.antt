use Rattle.std.proofs.Common.{arith, ap, ◌∙◌}
use Rattle.std.proofs.lemmas.List.{with_items_is}
use Rattle.set_scratch.specs.Spelling.{held_of}
use Rattle.set_scratch.proofs.scratch.Scratch.hold_octets.Goals as goal

pub returns : goal.returns
returns c = λ set octets there is.
    let inside = c.self.inside in
    let after = c.keep_octets-self-inside in
    ap (λ xs. held_of xs after.result.len)
    (with_items_is inside.octets after.new.octets
    (omega (arith, after.ensures.kept.size, c.self.invariant.size, inside.octets.ok.0)))
    ∙ after.ensures.held set octets there is
