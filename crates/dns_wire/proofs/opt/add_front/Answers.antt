use Rattle.std.proofs.Common.{arith}
use Rattle.dns_wire.proofs.Pieces.{counted_front}
use Rattle.dns_wire.proofs.opt.add_front.Goals as goal

pub returns-clause-written : goal.returns-clause-written
returns-clause-written c =
    let room = c.requires.room in
    counted_front c.args.at c.args.used c.args.piece.now c.args.buffer.now c.put_at.new.buffer c.requires.used
    (omega (arith, room)) c.put_at.ensures.written
