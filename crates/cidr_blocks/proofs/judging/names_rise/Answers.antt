use Rattle.cidr_blocks.proofs.OneByOne.{is, isnt, names_fall, names_rise}
use Rattle.cidr_blocks.proofs.judging.names_rise.Goals as goal

pub returns-then-ne : goal.returns-then-ne
returns-then-ne c =
    isnt (names_fall c.args.locations.now c.loop-i.i c.index-locations-i.result
    c.index-locations-i-in-loop-i.result c.name_order.result c.ne.result c.loop-i.auto.i
    c.loop-i-test.true c.name_order.ensures c.ne.ensures c.if-ne.true)

pub returns : goal.returns
returns c =
    is (names_rise c.args.locations.now c.loop-i.i c.loop-i-test.false c.loop-i.invariant)
