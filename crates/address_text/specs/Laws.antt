-- Laws over the definitions of this crate, and over those of std for dotted decimal.
use Rattle.std.specs.Prelude.{◌≡◌, ℕ, ◌<◌, List, length, ◌↔◌, Some}
use Rattle.std.specs.List.{AllByRecursion}
use Rattle.std.specs.Net.Grammar.{IsDotted}
use Rattle.std.specs.Net.Text.{ipv4_text}
use Rattle.address_text.specs.AddressOfText.{ipv4_of, ipv6_of}
use Rattle.address_text.specs.Spelling.{SpellsIpv6, colon_hex}

-- A text spells one IPv4 address at most.
abbrev pub OneIpv4OfAText : Type 0
OneIpv4OfAText = (text octets others : List ℕ) → IsDotted text octets → IsDotted text others
    → octets ≡ others

-- A text spells one IPv6 address at most.
abbrev pub OneIpv6OfAText : Type 0
OneIpv6OfAText = (text octets others : List ℕ) → SpellsIpv6 text octets → SpellsIpv6 text others
    → octets ≡ others

-- The text written of four octets spells them.
abbrev pub WrittenIpv4ReadsBack : Type 0
WrittenIpv4ReadsBack =
    (octets : List ℕ) → length octets ≡ 4 → AllByRecursion (λ b. b < 256) octets
    → IsDotted (ipv4_text octets) octets

-- The text written of sixteen octets spells them.
abbrev pub WrittenIpv6ReadsBack : Type 0
WrittenIpv6ReadsBack =
    (octets : List ℕ) → length octets ≡ 16 → AllByRecursion (λ b. b < 256) octets
    → SpellsIpv6 (colon_hex octets) octets

-- The address of a text is the one that it spells, and there is none where it spells none.
abbrev pub Ipv4OfText : Type 0
Ipv4OfText = (text octets : List ℕ) → (ipv4_of text ≡ Some octets) ↔ IsDotted text octets

abbrev pub Ipv6OfText : Type 0
Ipv6OfText = (text octets : List ℕ) → (ipv6_of text ≡ Some octets) ↔ SpellsIpv6 text octets
