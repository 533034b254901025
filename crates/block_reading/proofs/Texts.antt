-- Names of collections and of locations.
use Rattle.std.proofs.Common.{◌≡◌, ℕ, suc, ◌<◌, inl, List, [], ◌∷◌, arith, refl, Ok}
use Rattle.std.specs.Prelude.{slice_index}
use Rattle.block_octets.specs.Names.{AreOctets}
use Rattle.block_octets.specs.Readers.{text_at}
use Rattle.block_octets.specs.Rules.{IsReadAs, text_octets}
use Rattle.block_octets.proofs.Plain.{text_read}
use Rattle.block_octets.proofs.Rules.{alike}
use Rattle.block_octets.specs.Texts.{IsText, IsLocationName, is_location_byte}
use Rattle.block_octets.specs.Idents.{IsCollectionName, IsNameOrStar}
use Rattle.block_reading.specs.Reading.{name_at, location_at}

texts_read : (most : ℕ)
    → IsReadAs (IsText is_location_byte most) text_octets (text_at is_location_byte most)
texts_read most = alike (text_read is_location_byte most)
    (λ text is. (record { filled = is.filled; short = is.short; plain = is.plain }, refl))
    (λ text is. record { filled = is.filled; short = is.short; plain = is.plain })

pub name_read : IsReadAs IsCollectionName text_octets name_at
name_read = texts_read 64

pub location_read : IsReadAs IsLocationName text_octets location_at
location_read = texts_read 16

-- a name that was read is one
are_octets : (octets : List ℕ) → ((i : ℕ) → slice_index octets i < 256) → AreOctets octets
are_octets [] bytes = tt
are_octets (b ∷ octets) bytes = (bytes 0, are_octets octets (λ i. bytes (suc i)))

pub name_is : (octets text rest : List ℕ) → ((i : ℕ) → slice_index octets i < 256)
    → name_at octets ≡ Ok (text, rest) → IsNameOrStar text
name_is octets text rest bytes e =
    inl (name_read.stands octets text rest (are_octets octets bytes) e).1

pub location_is : (octets text rest : List ℕ) → ((i : ℕ) → slice_index octets i < 256)
    → location_at octets ≡ Ok (text, rest) → IsNameOrStar text
location_is octets text rest bytes e =
    let is = (location_read.stands octets text rest (are_octets octets bytes) e).1 in
    inl (record { filled = is.filled; short = omega (arith, is.short); plain = is.plain })
