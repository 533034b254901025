-- Where commands on collections stop.
use Rattle.std.proofs.Common.{◌≡◌, ℕ, zero, suc, ◌≤◌, ◌<◌, ◌^◌, ◌-◌, ◌%◌, Bool, true, false, inl, List, [], ◌∷◌, ◌++◌, length, take, drop, arith, sym, refl, cond, ltb, append-nil, Some, Result, Ok, Err}
use Rattle.std.specs.Prelude.{⊤, slice_index}
use Rattle.std.specs.List.{AllByRecursion}
use Rattle.std.proofs.lemmas.Bool.{leb-true, le-leb, eqb-true, eq-eqb, ltb-true, and_from, and_parts}
use Rattle.std.proofs.Math.Nat.{mul-mod_left, mod-one}
use Rattle.std.specs.Int.{from_be_bytes, w32, w128}
use Rattle.octet_reading.specs.Readers.{Reader, in_turn, mapped, has_kind, list_at, in_turn_by}
use Rattle.octet_reading.specs.Reading.{four_at}
use Rattle.octet_reading.specs.Rules.{IsReadAs, AreListable, text_octets}
use Rattle.octet_reading.proofs.Base.{octet_read}
use Rattle.octet_reading.proofs.Composed.{tested_read}
use Rattle.octet_reading.proofs.OfKind.{kinds_read}
use Rattle.octet_reading.proofs.Optional.{meaning_read, numbered_is}
use Rattle.octet_reading.proofs.Rules.{alike, err_is}
use Rattle.block_octets.specs.IpAddressRecord.{IpAddress}
use Rattle.block_octets.specs.IpAddressRecord.TheVariants.{V4, V6}
use Rattle.block_octets.specs.Names.{AreOctets}
use Rattle.block_octets.specs.Bits.{IsAddress, width_of, number_of}
use Rattle.block_octets.specs.Prefixes.{IsPrefix, Prefix}
use Rattle.block_octets.specs.Places.{octets_of}
use Rattle.block_octets.specs.Texts.{IsLocationName, is_location_byte}
use Rattle.block_octets.specs.Idents.{IsCollectionName}
use Rattle.block_octets.specs.CidrChangeRecord.{CidrChange}
use Rattle.block_octets.specs.CidrCommandRecord.{CidrCommand}
use Rattle.block_octets.specs.CidrCommandRecord.TheVariants.{Create, Change, Delete}
use Rattle.block_octets.specs.Laws.{HaveNames, HasName}
use Rattle.block_octets.specs.Octets.{family_of, block_octets, put_number, change_octets, field_octets, HasFewBlocks}
use Rattle.block_reading.specs.Blocks.{octets_at, short_address_at, long_address_at, is_length, length_at, prefix_of, short_at, long_at, block_lines, block_at}
use Rattle.block_reading.specs.Laws.{IsOfKind}
use Rattle.block_reading.specs.Reading.{name_at, location_at, create_at, put_of, put_at, changed, change_at, changing, change_collection_at, delete_at}
use Rattle.block_reading.proofs.Prefixes.{octets_read}
use Rattle.block_reading.proofs.Texts.{name_read, location_read}
use Rattle.fault_places.specs.Fields.{Field, spelling, Stops}
use Rattle.fault_places.specs.Fields.Ending.{Sized}
use Rattle.fault_places.specs.Sets.{sized, open_ended}
use Rattle.fault_places.proofs.Composed.{kinds_faults}
use Rattle.fault_places.proofs.Leaves.{tested_octet, one_meaning}
use Rattle.fault_places.proofs.Steps.{Faults, Dead, one_field, field_faults, sized_meets}
use Rattle.fault_places.proofs.Texts.{text_faults}
use Rattle.command_faults.specs.Commands.{block_fields, cidr_change_fields, cidr_fields}
use Rattle.command_faults.proofs.Checks.{number_part}
use Rattle.command_faults.proofs.Parts.{Part, one_part, in_turn_part, in_turn_by_part, seen_part, list_part}

-- ---- so many octets

abbrev IsPiece : ℕ → List ℕ → Type 0
IsPiece count piece = (length piece ≡ count) × AreOctets piece

piece_stops : (count : ℕ) (least : List ℕ) → IsPiece count least → (octets : List ℕ) (left : ℕ)
    (short : Bool) → ltb (length octets) count ≡ short
    → cond {A = Result (List ℕ × List ℕ) ℕ} short (Err 0) (Ok (take count octets, drop count octets))
    ≡ Err left
    → (x : List ℕ) × IsPiece count x
    × Stops Sized x octets left (Dead (IsPiece count) (λ piece. piece) octets)
piece_stops count least is octets left true s e =
    (least, is, inl (sym (err_is {A = List ℕ × List ℕ} 0 left e), omega (arith, is.0, ltb-true (length octets) count s)))
piece_stops count least is octets left false s e =
    absurd (let k : Ok (take count octets, drop count octets) ≡ Err left = e in cc)

piece_faults : (count : ℕ) (least : List ℕ) → IsPiece count least → 0 < count
    → Faults (IsPiece count) (one_field (λ piece. piece) Sized) (octets_at count)
piece_faults count least is some =
    field_faults (λ piece. piece) Sized (octets_at count) (sized_meets (λ piece. piece) count (λ x h. h.0))
    (λ x h. omega (arith, h.0, some))
    (λ octets left are e. piece_stops count least is octets left (ltb (length octets) count) refl e)

piece_part : (count : ℕ) (least : List ℕ) → IsPiece count least → 0 < count
    → Part (IsPiece count) (λ piece. piece) (λ piece. sized piece ∷ []) (octets_at count)
piece_part count least is some =
    one_part (λ piece. sized piece) (λ piece. refl) (octets_read count)
    (piece_faults count least is some) least is

-- ---- addresses

below : (octets : List ℕ) → AreOctets octets → (i : ℕ) → slice_index octets i < 256
below [] are i = omega arith
below (b ∷ octets) are zero = are.0
below (b ∷ octets) are (suc i) = below octets are.1 i

from_below : (octets : List ℕ) → ((i : ℕ) → slice_index octets i < 256) → AreOctets octets
from_below [] each = tt
from_below (b ∷ octets) each = (each 0, from_below octets (λ i. each (suc i)))

abbrev IsOf : (family : ℕ) → IpAddress → Type 0
IsOf family address = IsAddress address × (family_of address ≡ family)

abbrev address_fields : IpAddress → List Field
address_fields address = sized (octets_of address) ∷ []

address_spells : (address : IpAddress) → spelling (address_fields address) ≡ octets_of address
address_spells address = append-nil (octets_of address)

abbrev zeros4 : List ℕ
zeros4 = 0 ∷ 0 ∷ 0 ∷ 0 ∷ []

abbrev zeros16 : List ℕ
zeros16 = 0 ∷ 0 ∷ 0 ∷ 0 ∷ 0 ∷ 0 ∷ 0 ∷ 0 ∷ 0 ∷ 0 ∷ 0 ∷ 0 ∷ 0 ∷ 0 ∷ 0 ∷ 0 ∷ []

short_address : Part (IsOf 4) octets_of address_fields short_address_at
short_address =
    seen_part V4 (piece_part 4 zeros4 (refl, omega arith) (omega arith))
    (λ octets h. ((record { long = h.0; each = below octets h.1 }, refl), refl, refl)) from
    address_spells
  where
    from : (address : IpAddress) → IsOf 4 address
        → (octets : List ℕ) × IsPiece 4 octets × (V4 octets ≡ address)
    from (V4 octets) h = (octets, (h.0.long, from_below octets h.0.each), refl)
    from (V6 octets) h = absurd (omega (arith, h.1))

long_address : Part (IsOf 6) octets_of address_fields long_address_at
long_address =
    seen_part V6 (piece_part 16 zeros16 (refl, omega arith) (omega arith))
    (λ octets h. ((record { long = h.0; each = below octets h.1 }, refl), refl, refl)) from
    address_spells
  where
    from : (address : IpAddress) → IsOf 6 address
        → (octets : List ℕ) × IsPiece 16 octets × (V6 octets ≡ address)
    from (V4 octets) h = absurd (omega (arith, h.1))
    from (V6 octets) h = (octets, (h.0.long, from_below octets h.0.each), refl)

-- ---- lengths

width_most : (address : IpAddress) → width_of address ≤ 128
width_most (V4 octets) = omega arith
width_most (V6 octets) = omega arith

abbrev IsLength : IpAddress → ℕ → Type 0
IsLength address length = (length < 2 ^ 8) × (is_length address length ≡ true)

length_read : (address : IpAddress) → IsReadAs (IsLength address) (λ n. n ∷ []) (length_at address)
length_read address = tested_read (is_length address) octet_read

prefix_is : (family : ℕ) (p : IpAddress × ℕ) → IsOf family p.0 × IsLength p.0 p.1
    → IsPrefix p.0 p.1
prefix_is family p h =
    let parts = and_parts _ _ h.1.1 in
    record {
      octets = h.0.0;
      within = leb-true p.1 (width_of p.0) parts.0;
      zeros = eqb-true (number_of p.0 % 2 ^ (128 - p.1)) 0 parts.1;
    }

length_is : (block : Prefix) → IsPrefix block.address block.length
    → IsLength block.address block.length
length_is block is = (
  omega (arith, is.within, width_most block.address),
  and_from _ _ (le-leb block.length (width_of block.address) is.within)
      (eq-eqb (number_of block.address % 2 ^ (128 - block.length)) 0 is.zeros),
)

full_zeros : (address : IpAddress) → number_of address % 2 ^ (128 - width_of address) ≡ 0
unfolding number_of
full_zeros (V4 octets) = mul-mod_left (from_be_bytes w32 octets) (2 ^ 96)
full_zeros (V6 octets) = mod-one (from_be_bytes w128 octets)

full_length : (address : IpAddress) → IsLength address (width_of address)
full_length address = (
  omega (arith, width_most address),
  and_from _ _ (le-leb (width_of address) (width_of address) (omega arith))
      (eq-eqb (number_of address % 2 ^ (128 - width_of address)) 0 (full_zeros address)),
)

-- the whole of an address is a length of it
full : (family : ℕ) (address : IpAddress) → IsOf family address
    → (n : ℕ) × IsLength address n
full family address h = (width_of address, full_length address)

-- ---- blocks

abbrev IsPrefixed : Prefix → Type 0
IsPrefixed block = IsPrefix block.address block.length

abbrev kind_of : Prefix → ℕ
kind_of block = family_of block.address

abbrev octets_later : Prefix → List ℕ
octets_later block = octets_of block.address ++ block.length ∷ []

abbrev later : Prefix → List Field
later block = sized (octets_of block.address) ∷ sized (block.length ∷ []) ∷ []

abbrev IsBlockOf : (family : ℕ) → Prefix → Type 0
IsBlockOf family block = IsPrefixed block × (kind_of block ≡ family)

length_faults : (family : ℕ) (address : IpAddress) → IsOf family address
    → Faults (IsLength address) (λ n. sized (n ∷ []) ∷ []) (length_at address)
length_faults family address h =
    let some = full family address h in
    tested_octet (is_length address) some.0 some.1 (length_read address)

block_of : (family : ℕ) {read : Reader IpAddress}
    → Part (IsOf family) octets_of address_fields read
    → Part (IsBlockOf family) octets_later later (mapped prefix_of (in_turn_by read length_at))
block_of family address =
    seen_part prefix_of
    (in_turn_by_part address length_read (λ a n. refl) (length_faults family) (full family))
    (λ p h. ((prefix_is family p h, h.0.1), refl, refl))
    (λ block h. (
      (block.address, block.length),
      ((h.0.octets, h.1), length_is block h.0),
      refl,
    ))
    (λ block. refl)

short_part : Part (IsBlockOf 4) octets_later later short_at
unfolding short_at
short_part = block_of 4 short_address

long_part : Part (IsBlockOf 6) octets_later later long_at
unfolding long_at
long_part = block_of 6 long_address

has_line : (address : IpAddress) → has_kind block_lines (family_of address) ≡ true
has_line (V4 octets) = refl
has_line (V6 octets) = refl

pub block_part : Part IsPrefixed block_octets block_fields block_at
unfolding block_at
block_part = record {
  reads = kinds_read kind_of IsPrefixed octets_later block_lines
      (short_part.reads, (long_part.reads, tt)) (λ block h. has_line block.address);
  spells = λ block. refl;
  told = kinds_faults kind_of IsPrefixed later block_lines (
    (short_part.told, (short_part.some, short_part.is_some)),
    ((long_part.told, (long_part.some, long_part.is_some)), tt),
  ) 4 refl (λ block h. has_line block.address);
  some = short_part.some;
  is_some = short_part.is_some.0;
}

-- ---- changes

found_put : (put : Bool) → put_of (put_number put) ≡ Some put
found_put true = refl
found_put false = refl

put_below : (put : Bool) → put_number put < 2 ^ 8
put_below true = omega arith
put_below false = omega arith

put_read : IsReadAs (λ put. ⊤) (λ put. put_number put ∷ []) put_at
unfolding put_at
put_read =
    alike (meaning_read put_number put_of octet_read found_put
    (numbered_is put_number (true ∷ false ∷ [])))
    (λ put h. (tt, refl)) (λ put h. put_below put)

put_faults : Faults (λ put. ⊤) (λ put. sized (put_number put ∷ []) ∷ []) put_at
unfolding put_at
put_faults = one_meaning put_of true put_number put_read

put_part : Part (λ put. ⊤) (λ put. put_number put ∷ []) (λ put. sized (put_number put ∷ []) ∷ [])
    put_at
put_part = one_part (λ put. sized (put_number put ∷ [])) (λ put. refl) put_read put_faults true tt

pub location_part : Part IsLocationName text_octets (λ text. open_ended (text_octets text) ∷ [])
    location_at
location_part = one_part (λ text. open_ended (text_octets text)) (λ text. refl) location_read
    (text_faults is_location_byte 16 0x61 refl (omega arith)) (0x61 ∷ [])
    (record { filled = omega arith; short = omega arith; plain = (refl, tt) })

pub name_part : Part IsCollectionName text_octets (λ text. open_ended (text_octets text) ∷ []) name_at
name_part = one_part (λ text. open_ended (text_octets text)) (λ text. refl) name_read
    (text_faults is_location_byte 64 0x61 refl (omega arith)) (0x61 ∷ [])
    (record { filled = omega arith; short = omega arith; plain = (refl, tt) })

abbrev IsSpelledChange : CidrChange → Type 0
IsSpelledChange change = HasName change × HasFewBlocks change

change_inner : Part (λ (p : (Bool × List ℕ) × List Prefix).
    (⊤ × IsLocationName p.0.1) × AreListable IsPrefixed p.1)
    (λ p. change_octets (changed p)) (λ p. cidr_change_fields (changed p))
    (in_turn (in_turn put_at location_at) (list_at block_at))
change_inner = in_turn_part (in_turn_part put_part location_part) (list_part block_part)

change_part : Part IsSpelledChange change_octets cidr_change_fields change_at
unfolding change_at
change_part =
    seen_part changed change_inner
    (λ p h. ((record { name = h.0.1; prefixes = h.1.each }, h.1.count), refl, refl)) from
    (λ change. change_inner.spells ((change.put, change.location), change.blocks))
  where
    from : (change : CidrChange) → IsSpelledChange change
        → (p : (Bool × List ℕ) × List Prefix)
        × ((⊤ × IsLocationName p.0.1) × AreListable IsPrefixed p.1) × (changed p ≡ change)
    from change h = (
      ((change.put, change.location), change.blocks),
      ((tt, h.0.name), record { count = h.1; each = h.0.prefixes }),
      refl,
    )

both : (changes : List CidrChange) → HaveNames changes → AllByRecursion HasFewBlocks changes
    → AllByRecursion IsSpelledChange changes
both [] names few = tt
both (change ∷ changes) names few = ((names.0, few.0), both changes names.1 few.1)

apart : (changes : List CidrChange) → AllByRecursion IsSpelledChange changes
    → HaveNames changes × AllByRecursion HasFewBlocks changes
apart [] each = (tt, tt)
apart (change ∷ changes) each =
    let rest = apart changes each.1 in
    ((each.0.0, rest.0), (each.0.1, rest.1))

-- ---- commands

changing_part : Part (λ (p : ℕ × List CidrChange). ⊤ × AreListable IsSpelledChange p.1)
    (λ p. field_octets (changing p)) (λ p. cidr_fields (changing p))
    (in_turn four_at (list_at change_at))
changing_part = in_turn_part number_part (list_part change_part)

cidr_spells : (command : CidrCommand) → spelling (cidr_fields command) ≡ field_octets command
cidr_spells (Create name) = name_part.spells name
cidr_spells (Change id changes) = changing_part.spells (id, changes)
cidr_spells (Delete id) = number_part.spells id

pub create_part : Part (IsOfKind 7) field_octets cidr_fields create_at
unfolding create_at
create_part =
    seen_part Create name_part (λ name h. (((h, tt), refl), refl, refl)) from cidr_spells
  where
    from : (command : CidrCommand) → IsOfKind 7 command
        → (name : List ℕ) × IsCollectionName name × (Create name ≡ command)
    from (Create name) h = (name, h.0.0, refl)
    from (Change id changes) h = absurd (omega (arith, h.1))
    from (Delete id) h = absurd (omega (arith, h.1))

pub change_collection_part : Part (IsOfKind 8) field_octets cidr_fields change_collection_at
unfolding change_collection_at
change_collection_part = seen_part changing changing_part into from cidr_spells
  where
    into : (p : ℕ × List CidrChange) → ⊤ × AreListable IsSpelledChange p.1
        → IsOfKind 8 (changing p)
        × (field_octets (changing p) ≡ field_octets (changing p))
        × (cidr_fields (changing p) ≡ cidr_fields (changing p))
    into p h =
        let split = apart p.1 h.1.each in
        (((split.0, (h.1.count, split.1)), refl), refl, refl)

    from : (command : CidrCommand) → IsOfKind 8 command
        → (p : ℕ × List CidrChange) × (⊤ × AreListable IsSpelledChange p.1)
        × (changing p ≡ command)
    from (Create name) h = absurd (omega (arith, h.1))
    from (Change id changes) h = (
      (id, changes),
      (tt, record { count = h.0.1.0; each = both changes h.0.0 h.0.1.1 }),
      refl,
    )
    from (Delete id) h = absurd (omega (arith, h.1))

pub delete_part : Part (IsOfKind 9) field_octets cidr_fields delete_at
unfolding delete_at
delete_part = seen_part Delete number_part (λ id h. (((tt, tt), refl), refl, refl)) from cidr_spells
  where
    from : (command : CidrCommand) → IsOfKind 9 command
        → (id : ℕ) × ⊤ × (Delete id ≡ command)
    from (Create name) h = absurd (omega (arith, h.1))
    from (Change id changes) h = absurd (omega (arith, h.1))
    from (Delete id) h = (id, tt, refl)
