use Rattle.field_text.proofs.reading.read_field.Goals as goal

pub returns-in-Ipv6-clause-none : goal.returns-in-Ipv6-clause-none
returns-in-Ipv6-clause-none c = rw c.in-Ipv6.is c.ipv6_octets.ensures.none

pub returns-in-Name-clause-none : goal.returns-in-Name-clause-none
returns-in-Name-clause-none c = rw c.in-Name.is c.name_octets.ensures.none

pub returns-in-Number8-clause-none : goal.returns-in-Number8-clause-none
returns-in-Number8-clause-none c = rw c.in-Number8.is c.one_octet.ensures.none

pub returns-in-Number16-clause-none : goal.returns-in-Number16-clause-none
returns-in-Number16-clause-none c = rw c.in-Number16.is c.number_octets.ensures.none

pub returns-in-Number32-clause-none : goal.returns-in-Number32-clause-none
returns-in-Number32-clause-none c = rw c.in-Number32.is c.long_number_octets.ensures.none
