use Rattle.std.proofs.Common.{arith}
use Rattle.zone_list.proofs.Naming.{none_of}
use Rattle.zone_list.proofs.apexes.place_of.Goals as goal

pub returns : goal.returns
returns c =
    let past = c.loop-place-test.false in
    none_of c.args.list.now c.args.id c.loop-place.place (omega (arith, past)) c.loop-place.invariant
