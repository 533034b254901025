use Rattle.std.proofs.Common.{sym, ◌∙◌}
use Rattle.dns_wire.proofs.Names.{goes_on, is_found}
use Rattle.dns_wire.proofs.pointers.place_of.Goals as goal

pub returns-then-is_same-clause-first : goal.returns-then-is_same-clause-first
returns-then-is_same-clause-first c =
    sym (is_found c.args.asked.now c.args.octets.now c.loop-at.at (sym c.behind.ensures
    ∙ c.is_same.ensures.0 c.if-is_same.true) c.loop-at-test.true c.loop-at.invariant)

pub loop-at-preserved : goal.loop-at-preserved
loop-at-preserved c =
    goes_on c.args.asked.now c.args.octets.now c.loop-at.at c.requires.octets (λ e. let t =
    c.is_same.ensures.1 (c.behind.ensures ∙ e) in let f = c.if-is_same.false in
    cc) c.loop-at-test.true c.loop-at.invariant
