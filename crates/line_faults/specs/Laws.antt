-- Laws over the definitions of this crate.
use Rattle.std.specs.Prelude.{◌≡◌}
use Rattle.line_faults.specs.Texts.{text_of, reason_text}
use Rattle.line_faults.specs.declared.member.Member.{Member}
use Rattle.line_faults.specs.declared.fault.LineReason.{LineReason}

-- No two lines or members have one name, and no two reasons.
abbrev pub OneName : Type 0
OneName = (one other : Member) → text_of one ≡ text_of other → one ≡ other

abbrev pub OneReason : Type 0
OneReason = (one other : LineReason) → reason_text one ≡ reason_text other → one ≡ other
