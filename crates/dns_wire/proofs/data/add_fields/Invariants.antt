use Rattle.std.proofs.Common.{take}
use Rattle.rdata_layout.specs.Stored.{labels_of}
use Rattle.dns_wire.proofs.Fields.{IsWritten}
use Rattle.dns_wire.proofs.data.add_fields.Given as goal

abbrev pub invariant-loop-field : goal.invariant-loop-field
invariant-loop-field l =
    IsWritten (labels_of l.asked) l.fields l.octets (take l.at l.fn.buffer) l.at l.from l.to
    l.field-index l.buffer
