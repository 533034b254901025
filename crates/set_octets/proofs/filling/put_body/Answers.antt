use Rattle.std.proofs.Common.{arith}
use Rattle.set_octets.proofs.Counted.{few}
use Rattle.set_octets.proofs.filling.put_body.Goals as goal

pub overflow_cast-len : goal.overflow_cast-len
overflow_cast-len c =
    let most = few c.args.body.now _ _ c.in-Values.is c.requires.short in
    omega (arith, most, c.len.ensures)
