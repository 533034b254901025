use Rattle.std.proofs.Common.{arith}
use Rattle.r53_cli.proofs.Streams.{whole_packet, long_packet, too_long}
use Rattle.r53_cli.proofs.intake.take_packet.Goals as goal

pub returns-in-Ended-clause-reads : goal.returns-in-Ended-clause-reads
returns-in-Ended-clause-reads g c = λ left h.
    let f = c.in-Ended.ensures.reads left h in
    whole_packet left _ _ _ f.0 f.1 (omega (arith, c.in-Ended.ensures.within, c.requires.packet))

pub returns-in-TooLong-clause-reads : goal.returns-in-TooLong-clause-reads
returns-in-TooLong-clause-reads g c = λ left h.
    too_long left _ _ _ _ (c.in-Full.ensures.reads left h) (omega (arith, c.requires.packet))
    c.in-TooLong.ensures.reads

pub returns-in-Ended-drain-clause-reads : goal.returns-in-Ended-drain-clause-reads
returns-in-Ended-drain-clause-reads g c = λ left h.
    long_packet left _ _ _ _ (c.in-Full.ensures.reads left h) (omega (arith, c.requires.packet))
    c.in-Ended-drain.ensures.reads
