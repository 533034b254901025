use Rattle.prefix_text.proofs.Addresses.{an_ipv6, neither}
use Rattle.prefix_text.proofs.reading.read_address.Goals as goal

pub returns-in_default-read_ipv6 : goal.returns-in_default-read_ipv6
returns-in_default-read_ipv6 c =
    neither c.ipv4_of_text.ensures c.ipv6_of_text.ensures c.args.text.now c.in_default.ensures.none
    c.in_default-read_ipv6.ensures.none

pub returns : goal.returns
returns c =
    an_ipv6 c.ipv4_of_text.ensures c.ipv6_of_text.ensures c.args.text.now c.in_default.ensures.none
    _
    c.in-Some-read_ipv6.ensures.some
