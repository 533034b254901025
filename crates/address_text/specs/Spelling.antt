-- The texts of IPv6 addresses as octets (RFC 3596, 2.2; RFC 4291, 2.2).
use Rattle.std.specs.Prelude.{◌≡◌, ℕ, List}
use Rattle.std.specs.Net.Addr.{octets_of, segments_of}
use Rattle.std.specs.Net.Grammar.{IsColonHex}
use Rattle.std.specs.Net.Text.{hex_groups_text}

-- The text is groups of 1 to 4 hexadecimal digits, in either case, with colons between them: eight,
-- or fewer with one `::` for one zero group or more. The last two groups may be an IPv4 address in
-- dotted decimal. These are its octets.
abbrev pub SpellsIpv6 : (text octets : List ℕ) → Type 0
SpellsIpv6 text octets = (segments : List ℕ) × IsColonHex text segments
    × (octets ≡ octets_of segments)

-- The one text that is written: eight groups in lower case and without leading zeros, the longest
-- run of two zero groups or more as `::`, of equal runs the first (RFC 5952, 4). No group is
-- dotted.
abbrev pub colon_hex : (octets : List ℕ) → List ℕ
colon_hex octets = hex_groups_text (segments_of octets)
