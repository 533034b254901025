use Rattle.cidr_blocks.specs.Order.{block_cmp_total}
use Rattle.cidr_blocks.specs.Places.{block_cmp}
use Rattle.cidr_blocks.proofs.OneByOne.{falls, is, isnt, rises}
use Rattle.cidr_blocks.proofs.judging.blocks_rise.Goals as goal

pub returns-then-ne : goal.returns-then-ne
returns-then-ne c =
    isnt (falls block_cmp c.args.blocks.now c.loop-i.i c.index-blocks-i.result
    c.index-blocks-i-in-loop-i.result c.order_of.result c.ne.result c.loop-i.auto.i
    c.loop-i-test.true c.index-blocks-i.is c.index-blocks-i-in-loop-i.is c.order_of.ensures
    c.ne.ensures c.if-ne.true)

pub returns : goal.returns
returns c =
    is (rises block_cmp block_cmp_total c.args.blocks.now c.loop-i.i c.loop-i-test.false
    c.loop-i.invariant)
