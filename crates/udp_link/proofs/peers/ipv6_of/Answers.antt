use Rattle.std.proofs.Common.{refl, arith}
use Rattle.udp_link.proofs.Segments.{over}
use Rattle.udp_link.proofs.peers.ipv6_of.Goals as goal

pub returns : goal.returns
returns c =
    over c.args.octets.now _ _ _ c.requires refl (λ i. let fits = c.type_inv.octets i in omega (arith, fits)) c.fill_front.ensures
    c.from_octets.ensures
