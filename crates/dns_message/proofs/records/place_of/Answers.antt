use Rattle.std.proofs.Common.{arith}
use Rattle.dns_message.proofs.Walking.{too_short, too_long}
use Rattle.dns_message.proofs.records.place_of.Goals as goal

pub returns-then-octets-owner_len-lt-FIXED_LEN-clause-none :
    goal.returns-then-octets-owner_len-lt-FIXED_LEN-clause-none
returns-then-octets-owner_len-lt-FIXED_LEN-clause-none c =
    too_short c.args.octets.now _ c.in-Some.ensures.within c.in-Some.ensures.owner
    c.if-octets-owner_len-lt-FIXED_LEN.true

pub returns-then-size-octets-clause-none : goal.returns-then-size-octets-clause-none
returns-then-size-octets-clause-none c =
    too_long c.args.octets.now _ c.in-Some.ensures.within c.in-Some.ensures.owner
    (omega (arith, c.if-size-octets.true, c.number_at.ensures))
