use Rattle.std.proofs.Common.{ap, ◌∙◌}
use Rattle.cidr_commands.proofs.Ids.{Held, found_here}
use Rattle.cidr_commands.proofs.finding.place_of.Goals as goal

pub returns-then-list-i : goal.returns-then-list-i
returns-then-list-i c =
    found_here c.args.list.now c.loop-i.i c.args.id c.index-list-i.result c.loop-i-test.true
    c.index-list-i.is (ap (λ (h : Held). h.0) c.index-list-i.is ∙ c.if-list-i.true)
    c.loop-i.invariant
