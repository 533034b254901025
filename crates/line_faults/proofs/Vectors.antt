-- The names that are spelled otherwise than their variants (API Reference).
use Rattle.std.proofs.Common.{◌≡◌, [], ◌∷◌, refl}
use Rattle.line_faults.specs.Texts.{text_of, reason_text}
use Rattle.line_faults.specs.declared.member.Member.TheVariants as m
use Rattle.line_faults.specs.declared.fault.LineReason.TheVariants as reason

-- TTL
pub ttl : text_of m.Ttl ≡ 0x54 ∷ 0x54 ∷ 0x4C ∷ []
ttl = refl

-- DNSName
pub dns_name : text_of m.DnsName ≡ 0x44 ∷ 0x4E ∷ 0x53 ∷ 0x4E ∷ 0x61 ∷ 0x6D ∷ 0x65 ∷ []
dns_name = refl

-- IPAddress
pub ip_address : text_of m.IpAddress
    ≡ 0x49 ∷ 0x50 ∷ 0x41 ∷ 0x64 ∷ 0x64 ∷ 0x72 ∷ 0x65 ∷ 0x73 ∷ 0x73 ∷ []
ip_address = refl

-- EnableSNI
pub enable_sni : text_of m.EnableSni
    ≡ 0x45 ∷ 0x6E ∷ 0x61 ∷ 0x62 ∷ 0x6C ∷ 0x65 ∷ 0x53 ∷ 0x4E ∷ 0x49 ∷ []
enable_sni = refl

-- VPC
pub vpc : text_of m.Vpc ≡ 0x56 ∷ 0x50 ∷ 0x43 ∷ []
vpc = refl

-- BadHex
pub bad_hex : reason_text reason.BadHex ≡ 0x42 ∷ 0x61 ∷ 0x64 ∷ 0x48 ∷ 0x65 ∷ 0x78 ∷ []
bad_hex = refl
