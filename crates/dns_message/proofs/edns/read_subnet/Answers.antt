use Rattle.std.proofs.Common.{ap, Some}
use Rattle.std.proofs.lemmas.Bool.{false≢true}
use Rattle.dns_message.specs.Walk.{SubnetRead as subnet}
use Rattle.dns_message.proofs.edns.read_subnet.Goals as goal

pub returns-in-Ok : goal.returns-in-Ok
returns-in-Ok c = (
  subnet.Told c.in-Ok.subnet,
  (c.in-Ok.ensures.reads, c.in-Ok.ensures.subnet),
  ap Some c.edns_with.ensures,
  (λ f. absurd (false≢true f), λ e. absurd cc),
)
