-- Names of reasons are short.
use Rattle.std.proofs.Common.{◌≤◌, length, lit≤}
use Rattle.line_faults.specs.Texts.{reason_text}
use Rattle.line_faults.specs.declared.fault.LineReason.{LineReason}
use Rattle.line_faults.specs.declared.fault.LineReason.TheVariants as reason

pub reason_is_short : (r : LineReason) → length (reason_text r) ≤ 32
reason_is_short reason.NotJson = lit≤ tt
reason_is_short reason.UnknownLine = lit≤ tt
reason_is_short reason.UnknownMember = lit≤ tt
reason_is_short reason.Missing = lit≤ tt
reason_is_short reason.WrongKind = lit≤ tt
reason_is_short reason.OutOfRange = lit≤ tt
reason_is_short reason.BadName = lit≤ tt
reason_is_short reason.BadValue = lit≤ tt
reason_is_short reason.BadAddress = lit≤ tt
reason_is_short reason.BadHex = lit≤ tt
reason_is_short reason.Both = lit≤ tt
reason_is_short reason.Alone = lit≤ tt
