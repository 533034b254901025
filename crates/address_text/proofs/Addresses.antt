-- Addresses of texts.
use Rattle.std.proofs.Common.{◌≡◌, ℕ, zero, suc, ◌+◌, ◌*◌, ◌/◌, ◌%◌, ◌^◌, ◌<◌, List, [], ◌∷◌, length, get_or, lit≤, arith, ap, ap₂, sym, ◌∙◌, refl}
use Rattle.std.specs.List.{AllByRecursion}
use Rattle.std.specs.Net.Addr.{octets_of, segments_of}
use Rattle.std.specs.Net.Grammar.{IsDotted}
use Rattle.std.specs.Net.Reader.{read_ipv4, read_ipv6, read_octet, read_segments, read_segment, read_number}
use Rattle.std.proofs.lemmas.Option.{none-some}
use Rattle.std.proofs.NetLemmas.Options.{same_parts}
use Rattle.std.proofs.NetLemmas.Ipv4.{read_ipv4_complete}
use Rattle.std.proofs.NetLemmas.Ipv6.{read_ipv6_complete, EndsGroups-nil}
use Rattle.std.proofs.NetLemmas.Texts.{AllSegments, IsColonHex-hex_groups_text}
use Rattle.address_text.specs.Spelling.{SpellsIpv6, colon_hex}

pub one_ipv4 : (text octets others : List ℕ) → IsDotted text octets → IsDotted text others
    → octets ≡ others
one_ipv4 text octets others h k =
    (same_parts octets others [] [] (sym (read_ipv4_complete text octets [] h (lit≤ tt))
    ∙ read_ipv4_complete text others [] k (lit≤ tt))).0

pub one_ipv6 : (text octets others : List ℕ) → SpellsIpv6 text octets → SpellsIpv6 text others
    → octets ≡ others
one_ipv6 text octets others h k =
    let same =
    (same_parts h.0 k.0 [] [] (sym (read_ipv6_complete text h.0 [] h.1 EndsGroups-nil)
    ∙ read_ipv6_complete text k.0 [] k.1 EndsGroups-nil)).0 in
    h.2 ∙ ap octets_of same ∙ sym k.2

-- no address stands in an empty text
pub no_ipv4 : (octets : List ℕ) → IsDotted [] octets → ⊥
unfolding read_ipv4 read_octet read_number
no_ipv4 octets h = none-some (octets, []) (read_ipv4_complete [] octets [] h (lit≤ tt))

pub no_ipv6 : (octets : List ℕ) → SpellsIpv6 [] octets → ⊥
unfolding read_ipv6 read_segments read_segment read_number read_ipv4 read_octet
no_ipv6 octets h = none-some (h.0, []) (read_ipv6_complete [] h.0 [] h.1 EndsGroups-nil)

abbrev pub AreBytes : List ℕ → Type 0
AreBytes octets = AllByRecursion (λ b. b < 256) octets

-- two octets a segment
pub segments_fit : (octets : List ℕ) → AreBytes octets → AllSegments (segments_of octets)
segments_fit [] h k = omega arith
segments_fit (a ∷ []) h k = omega arith
segments_fit (a ∷ b ∷ octets) h k =
    let later = segments_fit octets h.1.1 in
    let high : a < 256 = h.0 in
    let low : b < 256 = h.1.0 in
    elim k as (λ j. get_or ((a * 256 + b) ∷ segments_of octets) j 0 < 2 ^ 16) [
      | zero ↦ omega arith
      | suc j ↦ later j
    ]

half : (octets : List ℕ) → length (segments_of octets) ≡ length octets / 2
half [] = refl
half (a ∷ []) = refl
half (a ∷ b ∷ octets) = let later = half octets in omega arith

segments_back : (octets : List ℕ) → AreBytes octets → length octets % 2 ≡ 0
    → octets ≡ octets_of (segments_of octets)
segments_back [] h e = refl
segments_back (a ∷ []) h e = absurd (omega arith)
segments_back (a ∷ b ∷ octets) h e =
    let high : a < 256 = h.0 in
    let low : b < 256 = h.1.0 in
    let first : a ≡ (a * 256 + b) / 256 = omega arith in
    let second : b ≡ (a * 256 + b) % 256 = omega arith in
    let later = segments_back octets h.1.1 (omega arith) in
    ap₂ (λ x y. x ∷ b ∷ y) first later
    ∙ ap (λ y. ((a * 256 + b) / 256) ∷ y ∷ octets_of (segments_of octets)) second

pub ipv6_reads_back : (octets : List ℕ) → length octets ≡ 16 → AreBytes octets
    → SpellsIpv6 (colon_hex octets) octets
ipv6_reads_back octets sixteen bytes = (
  segments_of octets,
  IsColonHex-hex_groups_text (segments_of octets) (omega (arith, half octets))
      (segments_fit octets bytes),
  segments_back octets bytes (omega arith),
)
