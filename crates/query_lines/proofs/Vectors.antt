-- Packets and addresses at values from outside.
use Rattle.std.proofs.Common.{◌≡◌, [], ◌∷◌, Ok, refl}
use Rattle.std.specs.Prelude.{codes}
use Rattle.hex.specs.Hex.{decode_pairs}
use Rattle.line_reading.specs.Reading.{bad}
use Rattle.line_faults.specs.declared.member.Member.TheVariants as m
use Rattle.line_faults.specs.declared.fault.LineReason.TheVariants.{BadHex}
use Rattle.query_lines.specs.Queries.{octets_of}

-- digits of either case
pub both_cases : octets_of m.Packet (codes "00fFA9") ≡ Ok (0 ∷ 0xFF ∷ 0xA9 ∷ [])
unfolding decode_pairs
both_cases = refl

pub odd : octets_of m.Packet (codes "00f") ≡ bad BadHex m.Packet
unfolding decode_pairs
odd = refl

pub no_digit : octets_of m.Packet (codes "0g") ≡ bad BadHex m.Packet
unfolding decode_pairs
no_digit = refl

pub nothing : octets_of m.Packet [] ≡ Ok []
unfolding decode_pairs
nothing = refl
