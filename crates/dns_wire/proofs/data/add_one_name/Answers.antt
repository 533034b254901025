use Rattle.std.proofs.Common.{◌∙◌, ◌+◌, ◌++◌, ap, sym, take, length}
use Rattle.rdata_layout.specs.Stored.{labels_of}
use Rattle.dns_wire.proofs.Fields.{one_name, one_written}
use Rattle.dns_wire.proofs.data.add_one_name.Goals as goal

pub add_octets-requires-clause-octets : goal.add_octets-requires-clause-octets
add_octets-requires-clause-octets c = one_name c.args.octets.now c.requires.name

pub returns-clause-end : goal.returns-clause-end
returns-clause-end c =
    c.add_octets.ensures.end
    ∙ ap (λ t. c.args.at + length t)
    (sym (one_written c.args.octets.now c.requires.name (labels_of c.args.asked.now)))

pub returns-clause-written : goal.returns-clause-written
returns-clause-written c =
    c.add_octets.ensures.written
    ∙ ap (λ t. take c.args.at c.args.buffer.now ++ t)
    (sym (one_written c.args.octets.now c.requires.name (labels_of c.args.asked.now)))
