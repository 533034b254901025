use Rattle.address_text.proofs.reading.read_ipv4.Goals as goal

pub returns-in_default-clause-none : goal.returns-in_default-clause-none
returns-in_default-clause-none c = λ octets h. c.in_default.ensures (record { octets = octets }) h
