-- Reading commands on collections from left to right, with the first fault that is met (FORMATS,
-- Octets of commands).
use Rattle.std.specs.Prelude.{ℕ, List, [], ◌∷◌, Bool, true, false, Option, Result}
use Rattle.block_octets.specs.Reading.{octet_at, four_at}
use Rattle.block_octets.specs.Readers.{mapped, in_turn, list_at, meaning, numbered, text_at}
use Rattle.block_octets.specs.Texts.{is_location_byte}
use Rattle.block_octets.specs.Prefixes.{Prefix}
use Rattle.block_octets.specs.CidrChangeRecord.{CidrChange}
use Rattle.block_octets.specs.CidrCommandRecord.{CidrCommand}
use Rattle.block_octets.specs.CidrCommandRecord.TheVariants.{Create, Change, Delete}
use Rattle.block_octets.specs.Octets.{put_number}
use Rattle.block_reading.specs.Blocks.{block_at}

-- the name of a collection: 1 to 64 letters, digits, `_` and `-`
abbrev pub name_at : List ℕ → Result (List ℕ × List ℕ) ℕ
name_at octets = text_at is_location_byte 64 octets

-- that of a location: 1 to 16
abbrev pub location_at : List ℕ → Result (List ℕ × List ℕ) ℕ
location_at octets = text_at is_location_byte 16 octets

-- a new collection
unfoldable pub create_at : List ℕ → Result (CidrCommand × List ℕ) ℕ
create_at octets = mapped Create name_at octets

-- what a change does, by its number
abbrev pub put_of : ℕ → Option Bool
put_of n = numbered put_number (true ∷ false ∷ []) n

unfoldable pub put_at : List ℕ → Result (Bool × List ℕ) ℕ
put_at octets = meaning put_of octet_at octets

-- what a change does, a location and blocks
abbrev pub changed : (Bool × List ℕ) × List Prefix → CidrChange
changed fields = record { put = fields.0.0; location = fields.0.1; blocks = fields.1 }

unfoldable pub change_at : List ℕ → Result (CidrChange × List ℕ) ℕ
change_at octets = mapped changed (in_turn (in_turn put_at location_at) (list_at block_at)) octets

-- a collection's number, and changes
abbrev pub changing : ℕ × List CidrChange → CidrCommand
changing fields = Change fields.0 fields.1

unfoldable pub change_collection_at : List ℕ → Result (CidrCommand × List ℕ) ℕ
change_collection_at octets = mapped changing (in_turn four_at (list_at change_at)) octets

-- a collection's number
unfoldable pub delete_at : List ℕ → Result (CidrCommand × List ℕ) ℕ
delete_at octets = mapped Delete four_at octets
