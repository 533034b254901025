use Rattle.address_text.proofs.Addresses.{ipv6_reads_back}
use Rattle.address_text.proofs.laws.written_ipv6_reads_back.Goals as goal

pub returns : goal.returns
returns c = ipv6_reads_back
