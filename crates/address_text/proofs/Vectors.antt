-- Texts of addresses from RFC 3596, RFC 4291 and RFC 5952, and texts that are none.
use Rattle.std.proofs.Common.{◌≡◌, ℕ, List, [], ◌∷◌, append-nil, refl, codes, Some, None, ap, sym, ◌∙◌, subst, lit≤}
use Rattle.std.specs.Net.Addr.{octets_of}
use Rattle.std.specs.Net.Grammar.{IsDotted, IsColonHex}
use Rattle.std.specs.Net.Reader.{read_ipv4, read_ipv6, read_octet, read_segments, read_segment, read_number}
use Rattle.std.specs.Net.Text.{ipv4_text, hex_groups_text, hex}
use Rattle.std.specs.Fmt.{digits}
use Rattle.std.proofs.NetLemmas.Options.{same_parts}
use Rattle.std.proofs.NetLemmas.Ipv4.{read_ipv4_complete, read_ipv4_sound}
use Rattle.std.proofs.NetLemmas.Ipv6.{read_ipv6_complete, read_ipv6_sound, EndsGroups-nil}
use Rattle.address_text.specs.AddressOfText.{ipv4_of, ipv6_of}
use Rattle.address_text.specs.Spelling.{SpellsIpv6, colon_hex}

-- What std's reader gives decides what a text spells.
spells : (text segments : List ℕ) → read_ipv6 text ≡ Some (segments, [])
    → SpellsIpv6 text (octets_of segments)
spells text segments e =
    let (front, split, h) = read_ipv6_sound text segments [] e in
    (segments, subst (λ t. IsColonHex t segments) (sym (split ∙ append-nil front)) h, refl)

abbrev SpellsNone : List ℕ → Type 0
SpellsNone text = (octets : List ℕ) → SpellsIpv6 text octets → ⊥

whole : (text : List ℕ) (octets : List ℕ) (h : SpellsIpv6 text octets)
    → read_ipv6 text ≡ Some (h.0, [])
whole text octets h = ap read_ipv6 (sym (append-nil text))
    ∙ read_ipv6_complete text h.0 [] h.1 EndsGroups-nil

begins_none : (text : List ℕ) → read_ipv6 text ≡ None → SpellsNone text
begins_none text e octets h = let none = sym e ∙ whole text octets h in absurd (cc)

goes_on : (text segments : List ℕ) (b : ℕ) (rest : List ℕ)
    → read_ipv6 text ≡ Some (segments, b ∷ rest) → SpellsNone text
goes_on text segments b rest e octets h = let more : b ∷ rest ≡ [] =
    (same_parts segments h.0 (b ∷ rest) [] (sym e ∙ whole text octets h)).1 in absurd (cc)

dotted : (text octets : List ℕ) → read_ipv4 text ≡ Some (octets, []) → IsDotted text octets
dotted text octets e =
    let (front, split, h) = read_ipv4_sound text octets [] e in
    subst (λ t. IsDotted t octets) (sym (split ∙ append-nil front)) h

abbrev DottedNone : List ℕ → Type 0
DottedNone text = (octets : List ℕ) → IsDotted text octets → ⊥

whole_dotted : (text octets : List ℕ) → IsDotted text octets → read_ipv4 text ≡ Some (octets, [])
whole_dotted text octets h = ap read_ipv4 (sym (append-nil text))
    ∙ read_ipv4_complete text octets [] h (lit≤ tt)

no_octet : (text : List ℕ) → read_ipv4 text ≡ None → DottedNone text
no_octet text e octets h = let none = sym e ∙ whole_dotted text octets h in absurd (cc)

dotted_on : (text octets : List ℕ) (b : ℕ) (rest : List ℕ)
    → read_ipv4 text ≡ Some (octets, b ∷ rest) → DottedNone text
dotted_on text octets b rest e others h = let more : b ∷ rest ≡ [] =
    (same_parts octets others (b ∷ rest) [] (sym e ∙ whole_dotted text others h)).1 in absurd (cc)

-- written: RFC 5952, 4.1, leading zeros are left out
pub leading_zeros : colon_hex (0x20 ∷ 1 ∷ 0x0D ∷ 0xB8 ∷ 0 ∷ 0 ∷ 0 ∷ 0 ∷ 0 ∷ 0 ∷ 0 ∷ 0 ∷ 0 ∷ 0 ∷ 0
    ∷ 1 ∷ []) ≡ codes "2001:db8::1"
unfolding hex_groups_text hex
leading_zeros = refl

-- 4.2.2: one zero group is no `::`
pub one_zero_group : colon_hex (0x20 ∷ 1 ∷ 0x0D ∷ 0xB8 ∷ 0 ∷ 0 ∷ 0 ∷ 1 ∷ 0 ∷ 1 ∷ 0 ∷ 1 ∷ 0 ∷ 1 ∷ 0
    ∷ 1 ∷ []) ≡ codes "2001:db8:0:1:1:1:1:1"
unfolding hex_groups_text hex
one_zero_group = refl

-- 4.2.3: the longest run of zero groups, and of equal runs the first
pub longest_run : colon_hex (0x20 ∷ 1 ∷ 0 ∷ 0 ∷ 0 ∷ 0 ∷ 0 ∷ 1 ∷ 0 ∷ 0 ∷ 0 ∷ 0 ∷ 0 ∷ 0 ∷ 0 ∷ 1 ∷ [])
    ≡ codes "2001:0:0:1::1"
unfolding hex_groups_text hex
longest_run = refl

pub first_of_equal_runs : colon_hex (0x20 ∷ 1 ∷ 0x0D ∷ 0xB8 ∷ 0 ∷ 0 ∷ 0 ∷ 0 ∷ 0 ∷ 1 ∷ 0 ∷ 0 ∷ 0 ∷ 0
    ∷ 0 ∷ 1 ∷ []) ≡ codes "2001:db8::1:0:0:1"
unfolding hex_groups_text hex
first_of_equal_runs = refl

-- 4.3: lower case
pub lower_case : colon_hex (0x20 ∷ 1 ∷ 0x0D ∷ 0xB8 ∷ 0xAA ∷ 0xAA ∷ 0xBB ∷ 0xBB ∷ 0xCC ∷ 0xCC ∷ 0xDD
    ∷ 0xDD ∷ 0xEE ∷ 0xEE ∷ 0xAA ∷ 0xAA ∷ [])
    ≡ codes "2001:db8:aaaa:bbbb:cccc:dddd:eeee:aaaa"
unfolding hex_groups_text hex
lower_case = refl

-- RFC 4291, 2.5.2 and 2.5.3
pub unspecified : colon_hex (0 ∷ 0 ∷ 0 ∷ 0 ∷ 0 ∷ 0 ∷ 0 ∷ 0 ∷ 0 ∷ 0 ∷ 0 ∷ 0 ∷ 0 ∷ 0 ∷ 0 ∷ 0 ∷ [])
    ≡ codes "::"
unfolding hex_groups_text hex
unspecified = refl

pub loopback : colon_hex (0 ∷ 0 ∷ 0 ∷ 0 ∷ 0 ∷ 0 ∷ 0 ∷ 0 ∷ 0 ∷ 0 ∷ 0 ∷ 0 ∷ 0 ∷ 0 ∷ 0 ∷ 1 ∷ [])
    ≡ codes "::1"
unfolding hex_groups_text hex
loopback = refl

-- zeros at the end (RFC 4291, 2.3)
pub zeros_at_the_end : colon_hex (0x20 ∷ 1 ∷ 0x0D ∷ 0xB8 ∷ 0 ∷ 0 ∷ 0xCD ∷ 0x30 ∷ 0 ∷ 0 ∷ 0 ∷ 0 ∷ 0
    ∷ 0 ∷ 0 ∷ 0 ∷ []) ≡ codes "2001:db8:0:cd30::"
unfolding hex_groups_text hex
zeros_at_the_end = refl

-- an address that maps an IPv4 address has no dotted end (own)
pub mapped : colon_hex (0 ∷ 0 ∷ 0 ∷ 0 ∷ 0 ∷ 0 ∷ 0 ∷ 0 ∷ 0 ∷ 0 ∷ 0xFF ∷ 0xFF ∷ 0xC0 ∷ 0 ∷ 2 ∷ 1 ∷ [])
    ≡ codes "::ffff:c000:201"
unfolding hex_groups_text hex
mapped = refl

-- read: RFC 4291, 2.2
pub eight_groups : SpellsIpv6 (codes "ABCD:EF01:2345:6789:ABCD:EF01:2345:6789")
    (0xAB ∷ 0xCD ∷ 0xEF ∷ 1 ∷ 0x23 ∷ 0x45 ∷ 0x67 ∷ 0x89 ∷ 0xAB ∷ 0xCD ∷ 0xEF ∷ 1 ∷ 0x23 ∷ 0x45
    ∷ 0x67 ∷ 0x89 ∷ [])
unfolding read_ipv6 read_segments read_segment read_number read_ipv4 read_octet
eight_groups =
    spells _ (0xABCD ∷ 0xEF01 ∷ 0x2345 ∷ 0x6789 ∷ 0xABCD ∷ 0xEF01 ∷ 0x2345 ∷ 0x6789 ∷ []) refl

pub short_groups : SpellsIpv6 (codes "2001:DB8:0:0:8:800:200C:417A")
    (0x20 ∷ 1 ∷ 0x0D ∷ 0xB8 ∷ 0 ∷ 0 ∷ 0 ∷ 0 ∷ 0 ∷ 8 ∷ 8 ∷ 0 ∷ 0x20 ∷ 0x0C ∷ 0x41 ∷ 0x7A ∷ [])
unfolding read_ipv6 read_segments read_segment read_number read_ipv4 read_octet
short_groups = spells _ (0x2001 ∷ 0xDB8 ∷ 0 ∷ 0 ∷ 8 ∷ 0x800 ∷ 0x200C ∷ 0x417A ∷ []) refl

pub elided : SpellsIpv6 (codes "2001:DB8::8:800:200C:417A") (0x20 ∷ 1 ∷ 0x0D ∷ 0xB8 ∷ 0 ∷ 0 ∷ 0 ∷ 0
    ∷ 0 ∷ 8 ∷ 8 ∷ 0 ∷ 0x20 ∷ 0x0C ∷ 0x41 ∷ 0x7A ∷ [])
unfolding read_ipv6 read_segments read_segment read_number read_ipv4 read_octet
elided = spells _ (0x2001 ∷ 0xDB8 ∷ 0 ∷ 0 ∷ 8 ∷ 0x800 ∷ 0x200C ∷ 0x417A ∷ []) refl

pub multicast : SpellsIpv6 (codes "FF01::101") (0xFF ∷ 1 ∷ 0 ∷ 0 ∷ 0 ∷ 0 ∷ 0 ∷ 0 ∷ 0 ∷ 0 ∷ 0 ∷ 0 ∷ 0
    ∷ 0 ∷ 1 ∷ 1 ∷ [])
unfolding read_ipv6 read_segments read_segment read_number read_ipv4 read_octet
multicast = spells _ (0xFF01 ∷ 0 ∷ 0 ∷ 0 ∷ 0 ∷ 0 ∷ 0 ∷ 0x101 ∷ []) refl

pub only_elided : SpellsIpv6 (codes "::") (0 ∷ 0 ∷ 0 ∷ 0 ∷ 0 ∷ 0 ∷ 0 ∷ 0 ∷ 0 ∷ 0 ∷ 0 ∷ 0 ∷ 0 ∷ 0 ∷ 0
    ∷ 0 ∷ [])
unfolding read_ipv6 read_segments read_segment read_number read_ipv4 read_octet
only_elided = spells _ (0 ∷ 0 ∷ 0 ∷ 0 ∷ 0 ∷ 0 ∷ 0 ∷ 0 ∷ []) refl

pub elided_front : SpellsIpv6 (codes "::1") (0 ∷ 0 ∷ 0 ∷ 0 ∷ 0 ∷ 0 ∷ 0 ∷ 0 ∷ 0 ∷ 0 ∷ 0 ∷ 0 ∷ 0 ∷ 0
    ∷ 0 ∷ 1 ∷ [])
unfolding read_ipv6 read_segments read_segment read_number read_ipv4 read_octet
elided_front = spells _ (0 ∷ 0 ∷ 0 ∷ 0 ∷ 0 ∷ 0 ∷ 0 ∷ 1 ∷ []) refl

pub dotted_end : SpellsIpv6 (codes "0:0:0:0:0:0:13.1.68.3") (0 ∷ 0 ∷ 0 ∷ 0 ∷ 0 ∷ 0 ∷ 0 ∷ 0 ∷ 0 ∷ 0
    ∷ 0 ∷ 0 ∷ 0x0D ∷ 1 ∷ 0x44 ∷ 3 ∷ [])
unfolding read_ipv6 read_segments read_segment read_number read_ipv4 read_octet
dotted_end = spells _ (0 ∷ 0 ∷ 0 ∷ 0 ∷ 0 ∷ 0 ∷ 0xD01 ∷ 0x4403 ∷ []) refl

pub elided_dotted_end : SpellsIpv6 (codes "::FFFF:129.144.52.38")
    (0 ∷ 0 ∷ 0 ∷ 0 ∷ 0 ∷ 0 ∷ 0 ∷ 0 ∷ 0 ∷ 0 ∷ 0xFF ∷ 0xFF ∷ 0x81 ∷ 0x90 ∷ 0x34 ∷ 0x26 ∷ [])
unfolding read_ipv6 read_segments read_segment read_number read_ipv4 read_octet
elided_dotted_end = spells _ (0 ∷ 0 ∷ 0 ∷ 0 ∷ 0 ∷ 0xFFFF ∷ 0x8190 ∷ 0x3426 ∷ []) refl

-- RFC 3596, 2.5
pub query_example : SpellsIpv6 (codes "4321:0:1:2:3:4:567:89ab") (0x43 ∷ 0x21 ∷ 0 ∷ 0 ∷ 0 ∷ 1 ∷ 0
    ∷ 2 ∷ 0 ∷ 3 ∷ 0 ∷ 4 ∷ 5 ∷ 0x67 ∷ 0x89 ∷ 0xAB ∷ [])
unfolding read_ipv6 read_segments read_segment read_number read_ipv4 read_octet
query_example = spells _ (0x4321 ∷ 0 ∷ 1 ∷ 2 ∷ 3 ∷ 4 ∷ 0x567 ∷ 0x89AB ∷ []) refl

-- `::` for one group
pub elided_one_group : SpellsIpv6 (codes "1:2:3:4:5:6:7::") (0 ∷ 1 ∷ 0 ∷ 2 ∷ 0 ∷ 3 ∷ 0 ∷ 4 ∷ 0 ∷ 5
    ∷ 0 ∷ 6 ∷ 0 ∷ 7 ∷ 0 ∷ 0 ∷ [])
unfolding read_ipv6 read_segments read_segment read_number read_ipv4 read_octet
elided_one_group = spells _ (1 ∷ 2 ∷ 3 ∷ 4 ∷ 5 ∷ 6 ∷ 7 ∷ 0 ∷ []) refl

-- no IPv6 addresses: `::` twice, nine groups and seven, `:::`, `::` for no group, a group of five
-- digits, a bad digit
pub two_elisions : SpellsNone (codes "1::2::3")
unfolding read_ipv6 read_segments read_segment read_number read_ipv4 read_octet
two_elisions = goes_on _ (1 ∷ 0 ∷ 0 ∷ 0 ∷ 0 ∷ 0 ∷ 0 ∷ 2 ∷ []) 58 (codes ":3") refl

pub nine_groups : SpellsNone (codes "1:2:3:4:5:6:7:8:9")
unfolding read_ipv6 read_segments read_segment read_number read_ipv4 read_octet
nine_groups = goes_on _ (1 ∷ 2 ∷ 3 ∷ 4 ∷ 5 ∷ 6 ∷ 7 ∷ 8 ∷ []) 58 (codes "9") refl

pub seven_groups : SpellsNone (codes "1:2:3:4:5:6:7")
unfolding read_ipv6 read_segments read_segment read_number read_ipv4 read_octet
seven_groups = begins_none _ refl

pub three_colons : SpellsNone (codes "1:::2")
unfolding read_ipv6 read_segments read_segment read_number read_ipv4 read_octet
three_colons = goes_on _ (1 ∷ 0 ∷ 0 ∷ 0 ∷ 0 ∷ 0 ∷ 0 ∷ 0 ∷ []) 58 (codes "2") refl

pub elided_no_group : SpellsNone (codes "1::2:3:4:5:6:7:8")
unfolding read_ipv6 read_segments read_segment read_number read_ipv4 read_octet
elided_no_group = goes_on _ (1 ∷ 0 ∷ 2 ∷ 3 ∷ 4 ∷ 5 ∷ 6 ∷ 7 ∷ []) 58 (codes "8") refl

pub five_digits : SpellsNone (codes "00001::")
unfolding read_ipv6 read_segments read_segment read_number read_ipv4 read_octet
five_digits = begins_none _ refl

pub bad_digit : SpellsNone (codes "g::")
unfolding read_ipv6 read_segments read_segment read_number read_ipv4 read_octet
bad_digit = begins_none _ refl

pub dotted_front : SpellsNone (codes "1::1.2.3.4:5")
unfolding read_ipv6 read_segments read_segment read_number read_ipv4 read_octet
dotted_front = goes_on _ (1 ∷ 0 ∷ 0 ∷ 0 ∷ 0 ∷ 0 ∷ 0x102 ∷ 0x304 ∷ []) 58 (codes "5") refl

pub no_text : SpellsNone (codes "")
unfolding read_ipv6 read_segments read_segment read_number read_ipv4 read_octet
no_text = begins_none _ refl

-- IPv4: addresses of RFC 5737 and RFC 1122
pub written_ipv4 : ipv4_text (192 ∷ 0 ∷ 2 ∷ 1 ∷ []) ≡ codes "192.0.2.1"
unfolding digits
written_ipv4 = refl

pub written_lowest : ipv4_text (0 ∷ 0 ∷ 0 ∷ 0 ∷ []) ≡ codes "0.0.0.0"
unfolding digits
written_lowest = refl

pub written_highest : ipv4_text (255 ∷ 255 ∷ 255 ∷ 255 ∷ []) ≡ codes "255.255.255.255"
unfolding digits
written_highest = refl

pub read_written_ipv4 : IsDotted (codes "192.0.2.1") (192 ∷ 0 ∷ 2 ∷ 1 ∷ [])
unfolding read_ipv4 read_octet read_number
read_written_ipv4 = dotted _ (192 ∷ 0 ∷ 2 ∷ 1 ∷ []) refl

pub read_highest : IsDotted (codes "255.255.255.255") (255 ∷ 255 ∷ 255 ∷ 255 ∷ [])
unfolding read_ipv4 read_octet read_number
read_highest = dotted _ (255 ∷ 255 ∷ 255 ∷ 255 ∷ []) refl

-- leading zeros, numbers above 255, and more or fewer than four
pub leading_zero : DottedNone (codes "192.0.02.1")
unfolding read_ipv4 read_octet read_number
leading_zero = no_octet _ refl

pub above_255 : DottedNone (codes "256.0.0.1")
unfolding read_ipv4 read_octet read_number
above_255 = no_octet _ refl

pub three_numbers : DottedNone (codes "192.0.2")
unfolding read_ipv4 read_octet read_number
three_numbers = no_octet _ refl

pub five_numbers : DottedNone (codes "192.0.2.1.5")
unfolding read_ipv4 read_octet read_number
five_numbers = dotted_on _ (192 ∷ 0 ∷ 2 ∷ 1 ∷ []) 46 (codes "5") refl

pub plus_sign : DottedNone (codes "+1.0.2.1")
unfolding read_ipv4 read_octet read_number
plus_sign = no_octet _ refl

-- the same as functions: the documentation addresses of RFC 5737 and RFC 3849, and a mapped one
-- (RFC 4291, 2.5.5.2)
pub documentation_ipv4 : ipv4_of (codes "192.0.2.1") ≡ Some (192 ∷ 0 ∷ 2 ∷ 1 ∷ [])
unfolding ipv4_of digits
documentation_ipv4 = refl

pub no_number_256 : ipv4_of (codes "256.0.0.1") ≡ None
unfolding ipv4_of digits
no_number_256 = refl

pub no_leading_zero : ipv4_of (codes "192.0.02.1") ≡ None
unfolding ipv4_of digits
no_leading_zero = refl

pub no_fifth_number : ipv4_of (codes "192.0.2.1.5") ≡ None
unfolding ipv4_of digits
no_fifth_number = refl

pub documentation_ipv6 : ipv6_of (codes "2001:db8::1")
    ≡ Some (0x20 ∷ 1 ∷ 0x0D ∷ 0xB8 ∷ 0 ∷ 0 ∷ 0 ∷ 0 ∷ 0 ∷ 0 ∷ 0 ∷ 0 ∷ 0 ∷ 0 ∷ 0 ∷ 1 ∷ [])
unfolding ipv6_of ipv4_of digits
documentation_ipv6 = refl

pub mapped_ipv4 : ipv6_of (codes "::ffff:192.0.2.1")
    ≡ Some (0 ∷ 0 ∷ 0 ∷ 0 ∷ 0 ∷ 0 ∷ 0 ∷ 0 ∷ 0 ∷ 0 ∷ 0xFF ∷ 0xFF ∷ 0xC0 ∷ 0 ∷ 2 ∷ 1 ∷ [])
unfolding ipv6_of ipv4_of digits
mapped_ipv4 = refl

pub no_address_behind_three_colons : ipv6_of (codes "1:::2") ≡ None
unfolding ipv6_of ipv4_of digits
no_address_behind_three_colons = refl
