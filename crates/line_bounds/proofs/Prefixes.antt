-- What texts spell as prefixes of addresses are such prefixes.
use Rattle.std.proofs.Common.{◌≡◌, ℕ, zero, suc, ◌-◌, ◌*◌, ◌%◌, ◌^◌, ◌<◌, inl, inr, List, [], ◌∷◌, ◌++◌, length, replicate, length-append, arith, ap, sym}
use Rattle.std.proofs.Common.{refl, Bool, true, false, cond, ◌&&◌, Option, None, Some, subst, nat_eq}
use Rattle.std.specs.Prelude.{nat_le, slice_index}
use Rattle.std.specs.List.{AllByRecursion}
use Rattle.std.specs.Net.Addr.{octets_of, segments_of}
use Rattle.std.specs.Net.Grammar.{IsColonHex, IsDotted, IsGroup, IsGroupsAfter}
use Rattle.std.proofs.lemmas.Bool.{eqb-true, leb-true}
use Rattle.std.proofs.lemmas.Int.Digits.{digits_value-lt}
use Rattle.std.proofs.lemmas.List.{length-replicate}
use Rattle.address_text.specs.AddressOfText.{ipv4_of, ipv6_of}
use Rattle.address_text.specs.Laws.{Ipv4OfText, Ipv6OfText}
use Rattle.address_text.specs.Spelling.{SpellsIpv6}
use Rattle.address_text.specs.declared.address.IpAddress.{IpAddress}
use Rattle.address_text.specs.declared.address.IpAddress.TheVariants.{V4, V6}
use Rattle.ip_table.specs.Bits.{AreOctets, IsAddress, number_of, width_of}
use Rattle.ip_table.specs.Prefixes.{IsPrefix, Prefix}
use Rattle.prefix_text.specs.Marks.{place_of}
use Rattle.prefix_text.specs.Prefixes.{address_of_text, around, block_of, block_of_parts, known}
use Rattle.line_bounds.specs.Laws.{TextsArePrefixes}

-- ---- octets

abbrev AreBytes : List ℕ → Type 0
AreBytes octets = AllByRecursion (λ b. b < 256) octets

each_byte : (octets : List ℕ) → AreBytes octets → (i : ℕ) → slice_index octets i < 256
each_byte [] are i = omega arith
each_byte (b ∷ octets) are zero = are.0
each_byte (b ∷ octets) are (suc i) = each_byte octets are.1 i

-- ---- segments of 16 bits, and their octets

abbrev Fit : List ℕ → Type 0
Fit segments = AllByRecursion (λ s. s < 65536) segments

append_fit : (first rest : List ℕ) → Fit first → Fit rest → Fit (first ++ rest)
append_fit [] rest f r = r
append_fit (s ∷ first) rest f r = (f.0, append_fit first rest f.1 r)

zeros_fit : (n : ℕ) → Fit (replicate n 0)
zeros_fit zero = tt
zeros_fit (suc n) = (omega arith, zeros_fit n)

bytes_of_segments : (segments : List ℕ) → Fit segments → AreBytes (octets_of segments)
bytes_of_segments [] fit = tt
bytes_of_segments (s ∷ segments) fit =
    let high : s < 65536 = fit.0 in
    (omega arith, (omega arith, bytes_of_segments segments fit.1))

group_fits : (text : List ℕ) (s : ℕ) → IsGroup text s → s < 65536
group_fits [] s h = let v = digits_value-lt 16 [] h.0.0.1 in omega (arith, v, h.0.1)
group_fits (a ∷ []) s h = let v = digits_value-lt 16 (a ∷ []) h.0.0.1 in omega (arith, v, h.0.1)
group_fits (a ∷ b ∷ []) s h =
    let v = digits_value-lt 16 (a ∷ b ∷ []) h.0.0.1 in omega (arith, v, h.0.1)
group_fits (a ∷ b ∷ c ∷ []) s h =
    let v = digits_value-lt 16 (a ∷ b ∷ c ∷ []) h.0.0.1 in omega (arith, v, h.0.1)
group_fits (a ∷ b ∷ c ∷ d ∷ []) s h =
    let v = digits_value-lt 16 (a ∷ b ∷ c ∷ d ∷ []) h.0.0.1 in omega (arith, v, h.0.1)
group_fits (a ∷ b ∷ c ∷ d ∷ e ∷ more) s h = absurd (omega (arith, h.1))

dotted_bytes : (text octets : List ℕ) → IsDotted text octets → AreBytes octets
dotted_bytes text octets h =
    subst AreBytes (sym h.value) (h.fit.0, (h.fit.1, (h.fit.2, (h.fit.3, tt))))

dotted_fit : (text octets : List ℕ) → IsDotted text octets → Fit (segments_of octets)
dotted_fit text octets h =
    let a : h.a < 256 = h.fit.0 in
    let b : h.b < 256 = h.fit.1 in
    let c : h.c < 256 = h.fit.2 in
    let d : h.d < 256 = h.fit.3 in
    subst (λ o. Fit (segments_of o)) (sym h.value) (omega arith, (omega arith, tt))

groups_fit : (ipv4 : Bool) (lead text segments : List ℕ) → IsGroupsAfter ipv4 lead text segments
    → Fit segments
groups_fit ipv4 lead text [] h = tt
groups_fit ipv4 lead text (s ∷ segments) (inl h) =
    (group_fits h.0 s h.3, groups_fit ipv4 _ h.1 segments h.4)
groups_fit ipv4 lead text (s ∷ segments) (inr h) =
    subst Fit (sym h.5) (dotted_fit h.0 h.1 h.4)

colon_hex_fit : (text segments : List ℕ) → IsColonHex text segments → Fit segments
colon_hex_fit text segments (inl h) = groups_fit true [] text segments h.0
colon_hex_fit text segments (inr h) =
    subst Fit (sym h.value) (append_fit (h.head ++ replicate (8 - length h.head - length h.tail) 0)
    h.tail (append_fit h.head (replicate (8 - length h.head - length h.tail) 0)
    (groups_fit false [] h.head_text h.head h.head_groups) (zeros_fit _))
    (groups_fit true [] h.tail_text h.tail h.tail_groups))

eight : (text segments : List ℕ) → IsColonHex text segments → length segments ≡ 8
eight text segments (inl h) = h.1
eight text segments (inr h) =
    let zeros : List ℕ = replicate (8 - length h.head - length h.tail) 0 in
    let gap : length zeros ≡ 8 - length h.head - length h.tail = length-replicate _ _ in
    omega (
      arith,
      h.room,
      ap length h.value,
      length-append (h.head ++ zeros) h.tail,
      length-append h.head zeros,
      gap,
    )

twice : (segments : List ℕ) → length (octets_of segments) ≡ 2 * length segments
twice [] = omega arith
twice (s ∷ segments) = omega (arith, twice segments)

-- ---- addresses

four_octets : (text octets : List ℕ) → IsDotted text octets → AreOctets 4 octets
four_octets text octets h = record {
  long = ap length h.value;
  each = each_byte octets (dotted_bytes text octets h);
}

sixteen_octets : (text octets : List ℕ) → SpellsIpv6 text octets → AreOctets 16 octets
sixteen_octets text octets h = record {
  long = omega (arith, ap length h.2, twice h.0, eight text h.0 h.1);
  each = each_byte octets (subst AreBytes (sym h.2) (bytes_of_segments h.0 (colon_hex_fit text h.0 h.1)));
}

module _ (law4 : Ipv4OfText) (law6 : Ipv6OfText) where
  is_address : (text : List ℕ) (address : IpAddress) → address_of_text text ≡ Some address
      → IsAddress address
  is_address text address e = by_version (ipv4_of text) (ipv6_of text) refl refl e
    where
      by_version : (four six : Option (List ℕ)) → ipv4_of text ≡ four → ipv6_of text ≡ six
          → known four six ≡ Some address → IsAddress address
      by_version (Some octets) six f s h =
          let a : V4 octets ≡ address = cc in
          subst IsAddress a (four_octets text octets ((law4 text octets).0 f))
      by_version None (Some octets) f s h =
          let a : V6 octets ≡ address = cc in
          subst IsAddress a (sixteen_octets text octets ((law6 text octets).0 s))
      by_version None None f s h = absurd cc

  is_block : (address : IpAddress) (n : ℕ) (prefix : Prefix) → IsAddress address
      → block_of address n ≡ Some prefix → IsPrefix prefix.address prefix.length
  is_block address n prefix is e =
      fits (nat_le n (width_of address)) (nat_eq (number_of address % 2 ^ (128 - n)) 0) refl refl e
    where
      fits : (within zeros : Bool) → nat_le n (width_of address) ≡ within
          → nat_eq (number_of address % 2 ^ (128 - n)) 0 ≡ zeros
          → cond (within && zeros) (Some (record { address = address; length = n })) None
          ≡ Some prefix
          → IsPrefix prefix.address prefix.length
      fits true true w z h =
          let same : ◌≡◌ {A = Prefix} (record { address = address; length = n }) prefix = cc in
          subst (λ p. IsPrefix p.address p.length) same (record {
            octets = is;
            within = leb-true n (width_of address) w;
            zeros = eqb-true (number_of address % 2 ^ (128 - n)) 0 z;
          })
      fits true false w z h = absurd cc
      fits false true w z h = absurd cc
      fits false false w z h = absurd cc

  of_parts : (text : List ℕ) (n : Option ℕ) (prefix : Prefix)
      → block_of_parts (address_of_text text) n ≡ Some prefix → IsPrefix prefix.address prefix.length
  of_parts text n prefix e = parts (address_of_text text) n refl e
    where
      parts : (address : Option IpAddress) (n : Option ℕ) → address_of_text text ≡ address
          → block_of_parts address n ≡ Some prefix → IsPrefix prefix.address prefix.length
      parts None n a h = absurd cc
      parts (Some address) None a h = absurd cc
      parts (Some address) (Some n) a h = is_block address n prefix (is_address text address a) h

  pub are_prefixes : TextsArePrefixes
  are_prefixes text prefix e = at_mark (place_of 0x2F text) e
    where
      at_mark : (place : Option ℕ) → around text place ≡ Some prefix
          → IsPrefix prefix.address prefix.length
      at_mark None h = absurd cc
      at_mark (Some at) h = of_parts _ _ prefix h
