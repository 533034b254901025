use Rattle.std.proofs.Common.{Some, None, arith}
use Rattle.cidr_commands.proofs.Ids.{here, behind, none_left}
use Rattle.cidr_commands.proofs.finding.id_after.Goals as goal

pub returns-then-held-id : goal.returns-then-held-id
returns-then-held-id c =
    c.loop-held.invariant (Some c.held-item.result.0)
    (here c.args.list.now c.args.id c.loop-held.held-index c.held-item.result c.loop-held-test.true
    c.held-item.is c.requires c.if-held-id.true)

pub loop-held-preserved : goal.loop-held-preserved
loop-held-preserved c next h =
    let low = c.if-held-id.false in
    c.loop-held.invariant next
    (behind c.args.list.now c.args.id c.loop-held.held-index c.held-item.result
    c.loop-held-test.true
    c.held-item.is (omega (arith, low)) next h)

pub returns : goal.returns
returns c =
    let over = c.loop-held-test.false in
    c.loop-held.invariant None
    (none_left c.args.list.now c.loop-held.held-index c.args.id (omega (arith, over)))
