use Rattle.std.proofs.Common.{append_assoc, refl}
use Rattle.r53_gen.proofs.queries.put_packet.Goals as goal

pub returns-clause-text : goal.returns-clause-text
returns-clause-text c =
    rw c.put.ensures.text (rw c.put-at-4.ensures.text (rw c.put-at-3.ensures.text (
    rw c.put-at-2.ensures.text (rw c.put-at.ensures.text (rw c.two_octets.ensures (simp append_assoc refl))))))
