-- The readers of CIDR blocks, each by the rules for readers that are built from readers.
use Rattle.std.proofs.Common.{◌≡◌, ℕ, zero, suc, ◌≤◌, ◌<◌, ◌^◌, Bool, true, false, List, [], ◌∷◌}
use Rattle.std.proofs.Common.{◌++◌, length}
use Rattle.std.proofs.Common.{◌-◌, ◌%◌, take, drop, arith, ap, ◌∙◌, sym, refl, subst, ltb, Result}
use Rattle.std.proofs.Common.{Ok, Err, cond}
use Rattle.std.specs.Prelude.{slice_index}
use Rattle.std.proofs.lemmas.Bool.{leb-true, le-leb, eqb-true, eq-eqb, le-ltb, ltb-false, and_from}
use Rattle.std.proofs.lemmas.Bool.{and_parts}
use Rattle.std.proofs.lemmas.List.{length-append, length-drop, length-take-le, take-append-drop}
use Rattle.std.proofs.Math.Seq.{take-append_seam, drop-append_seam}
use Rattle.block_octets.specs.IpAddressRecord.{IpAddress}
use Rattle.block_octets.specs.IpAddressRecord.TheVariants.{V4, V6}
use Rattle.block_octets.specs.Names.{AreOctets}
use Rattle.block_octets.specs.Readers.{has_kind}
use Rattle.block_octets.specs.Rules.{IsReadAs}
use Rattle.block_octets.proofs.Base.{octet_read}
use Rattle.block_octets.proofs.Composed.{in_turn_by_read, tested_read}
use Rattle.block_octets.proofs.Digits.{ok_is}
use Rattle.block_octets.proofs.OfKind.{kinds_read}
use Rattle.block_octets.proofs.Rules.{err_is, seen_read}
use Rattle.block_octets.specs.Bits.{IsAddress, width_of, number_of}
use Rattle.block_octets.specs.Prefixes.{IsPrefix, Prefix}
use Rattle.block_octets.specs.Places.{octets_of}
use Rattle.block_octets.specs.Octets.{family_of, block_octets}
use Rattle.block_reading.specs.Blocks.{octets_at, short_address_at, long_address_at, is_length}
use Rattle.block_reading.specs.Blocks.{length_at}
use Rattle.block_reading.specs.Blocks.{prefix_of, short_at, long_at, block_lines, block_at}

-- ---- so many octets

module _ (count : ℕ) where
  abbrev IsPiece : List ℕ → Type 0
  IsPiece piece = (length piece ≡ count) × AreOctets piece

  taken : (octets : List ℕ) → AreOctets octets → (n : ℕ) → AreOctets (take n octets)
  taken octets are zero = tt
  taken [] are (suc n) = tt
  taken (b ∷ octets) are (suc n) = (are.0, taken octets are.1 n)

  abbrev cut : Bool → List ℕ → Result (List ℕ × List ℕ) ℕ
  cut short octets = cond short (Err 0) (Ok (take count octets, drop count octets))

  cut_ok : (short : Bool) (octets : List ℕ) (x : List ℕ × List ℕ) → cut short octets ≡ Ok x
      → (short ≡ false) × ((take count octets, drop count octets) ≡ x)
  cut_ok true octets x e = absurd cc
  cut_ok false octets x e = (refl, ok_is (take count octets, drop count octets) x e)

  cut_err : (short : Bool) (octets : List ℕ) (left : ℕ) → cut short octets ≡ Err left → 0 ≡ left
  cut_err true octets left e = err_is {A = List ℕ × List ℕ} 0 left e
  cut_err false octets left e =
      absurd (let k : Ok (take count octets, drop count octets) ≡ Err left = e in cc)

  again : (piece rest : List ℕ) → IsPiece piece → octets_at count (piece ++ rest) ≡ Ok (piece, rest)
  again piece rest h =
      let long : count ≤ length (piece ++ rest) = omega (arith, h.0, length-append piece rest) in
      ap (λ short. cut short (piece ++ rest)) (le-ltb (length (piece ++ rest)) count long)
      ∙ ap (λ n. Ok (take n (piece ++ rest), drop n (piece ++ rest))) (sym h.0)
      ∙ ap (λ (p : List ℕ). Ok (p, drop (length piece) (piece ++ rest)))
      (take-append_seam piece rest)
      ∙ ap (λ (p : List ℕ). Ok (piece, p)) (drop-append_seam piece rest)

  stands : (octets piece rest : List ℕ) → AreOctets octets
      → octets_at count octets ≡ Ok (piece, rest)
      → (octets ≡ piece ++ rest) × IsPiece piece
  stands octets piece rest are e =
      let c = cut_ok (ltb (length octets) count) octets (piece, rest) e in
      let long = ltb-false (length octets) count c.0 in
      let front : take count octets ≡ piece = ap (λ (p : List ℕ × List ℕ). p.0) c.1 in
      let behind : drop count octets ≡ rest = ap (λ (p : List ℕ × List ℕ). p.1) c.1 in (
        sym (take-append-drop count octets) ∙ ap (λ p. p ++ drop count octets) front
            ∙ ap (λ p. piece ++ p) behind,
        subst IsPiece front (length-take-le count octets long, taken octets are count),
      )

  pub octets_read : IsReadAs (λ piece. (length piece ≡ count) × AreOctets piece)
      (λ piece. piece) (octets_at count)
  octets_read = record {
    again = again;
    stands = stands;
    left = λ octets piece rest e.
        let c = cut_ok (ltb (length octets) count) octets (piece, rest) e in
        omega (
          arith,
          length-drop count octets,
          ap (λ (p : List ℕ × List ℕ). length p.1) c.1,
        );
    fault = λ octets left e. omega (arith, cut_err (ltb (length octets) count) octets left e);
  }

-- ---- addresses

below : (octets : List ℕ) → AreOctets octets → (i : ℕ) → slice_index octets i < 256
below [] are i = omega arith
below (b ∷ octets) are zero = are.0
below (b ∷ octets) are (suc i) = below octets are.1 i

from_below : (octets : List ℕ) → ((i : ℕ) → slice_index octets i < 256) → AreOctets octets
from_below [] each = tt
from_below (b ∷ octets) each = (each 0, from_below octets (λ i. each (suc i)))

abbrev IsOf : (family : ℕ) → IpAddress → Type 0
IsOf family address = IsAddress address × (family_of address ≡ family)

short_address_read : IsReadAs (IsOf 4) octets_of short_address_at
short_address_read =
    seen_read V4 (octets_read 4)
    (λ octets h. ((record { long = h.0; each = below octets h.1 }, refl), refl)) from
  where
    from : (address : IpAddress) → IsOf 4 address
        → (octets : List ℕ) × ((length octets ≡ 4) × AreOctets octets) × (V4 octets ≡ address)
    from (V4 octets) h = (octets, (h.0.long, from_below octets h.0.each), refl)
    from (V6 octets) h = absurd (omega (arith, h.1))

long_address_read : IsReadAs (IsOf 6) octets_of long_address_at
long_address_read =
    seen_read V6 (octets_read 16)
    (λ octets h. ((record { long = h.0; each = below octets h.1 }, refl), refl)) from
  where
    from : (address : IpAddress) → IsOf 6 address
        → (octets : List ℕ) × ((length octets ≡ 16) × AreOctets octets) × (V6 octets ≡ address)
    from (V4 octets) h = absurd (omega (arith, h.1))
    from (V6 octets) h = (octets, (h.0.long, from_below octets h.0.each), refl)

-- ---- lengths

width_most : (address : IpAddress) → width_of address ≤ 128
width_most (V4 octets) = omega arith
width_most (V6 octets) = omega arith

abbrev IsLength : IpAddress → ℕ → Type 0
IsLength address length = (length < 2 ^ 8) × (is_length address length ≡ true)

length_read : (address : IpAddress) → IsReadAs (IsLength address) (λ n. n ∷ []) (length_at address)
length_read address = tested_read (is_length address) octet_read

-- an address of a family with a length of it is a prefix
prefix_is : (family : ℕ) (p : IpAddress × ℕ) → IsOf family p.0 × IsLength p.0 p.1
    → IsPrefix p.0 p.1
prefix_is family p h =
    let parts = and_parts _ _ h.1.1 in
    record {
      octets = h.0.0;
      within = leb-true p.1 (width_of p.0) parts.0;
      zeros = eqb-true (number_of p.0 % 2 ^ (128 - p.1)) 0 parts.1;
    }

length_is : (block : Prefix) → IsPrefix block.address block.length
    → IsLength block.address block.length
length_is block is = (
  omega (arith, is.within, width_most block.address),
  and_from _ _ (le-leb block.length (width_of block.address) is.within)
      (eq-eqb (number_of block.address % 2 ^ (128 - block.length)) 0 is.zeros),
)

-- ---- blocks

abbrev pub IsPrefixed : Prefix → Type 0
IsPrefixed block = IsPrefix block.address block.length

abbrev kind_of : Prefix → ℕ
kind_of block = family_of block.address

abbrev later : Prefix → List ℕ
later block = octets_of block.address ++ block.length ∷ []

abbrev IsBlockOf : (family : ℕ) → Prefix → Type 0
IsBlockOf family block = IsPrefixed block × (kind_of block ≡ family)

short_read : IsReadAs (IsBlockOf 4) later short_at
unfolding short_at
short_read =
    seen_read prefix_of (in_turn_by_read short_address_read length_read)
    (λ p h. ((prefix_is 4 p h, h.0.1), refl))
    (λ block h. (
      (block.address, block.length),
      ((h.0.octets, h.1), length_is block h.0),
      refl,
    ))

long_read : IsReadAs (IsBlockOf 6) later long_at
unfolding long_at
long_read =
    seen_read prefix_of (in_turn_by_read long_address_read length_read)
    (λ p h. ((prefix_is 6 p h, h.0.1), refl))
    (λ block h. (
      (block.address, block.length),
      ((h.0.octets, h.1), length_is block h.0),
      refl,
    ))

has_line : (address : IpAddress) → has_kind block_lines (family_of address) ≡ true
has_line (V4 octets) = refl
has_line (V6 octets) = refl

pub block_read : IsReadAs IsPrefixed block_octets block_at
unfolding block_at
block_read =
    kinds_read kind_of IsPrefixed later block_lines (short_read, (long_read, tt))
    (λ block h. has_line block.address)
