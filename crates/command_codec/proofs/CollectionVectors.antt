-- Commands on collections by hand, and each kind of fault.
use Rattle.std.proofs.Common.{◌≡◌, ℕ, List, [], ◌∷◌, ◌++◌, map, refl, true, false, Result, Ok, Err}
use Rattle.block_reading.specs.IpAddressRecord.TheVariants.{V4}
use Rattle.set_reading.specs.Readers.{text_at}
use Rattle.block_reading.specs.Bits.{number_of}
use Rattle.command_octets.specs.CidrCommandRecord.TheVariants.{Create, Change, Delete}
use Rattle.block_reading.specs.Blocks.{short_at, long_at, block_at}
use Rattle.block_reading.specs.Reading.{create_at, put_at, change_at, change_collection_at}
use Rattle.block_reading.specs.Reading.{delete_at}
use Rattle.command_octets.specs.declared.commands.Command.{Command}
use Rattle.command_octets.specs.declared.commands.Command.TheVariants as command
use Rattle.command_octets.specs.Octets.{command_octets}
use Rattle.command_codec.specs.Reading.{version_at, collection_made_at, collection_changed_at}
use Rattle.command_codec.specs.Reading.{collection_deleted_at, command_at, versioned_at, read}

-- a collection c1, and the end of collection 1
pub made_is_read : read (2 ∷ 7 ∷ 2 ∷ 0x63 ∷ 0x31 ∷ []) ≡ Ok (command.Cidr (Create (0x63 ∷ 0x31 ∷ [])))
unfolding read versioned_at version_at command_at collection_made_at create_at text_at
made_is_read = refl

pub deleted_is_read : read (2 ∷ 9 ∷ 0 ∷ 0 ∷ 0 ∷ 1 ∷ []) ≡ Ok (command.Cidr (Delete 1))
unfolding read versioned_at version_at command_at collection_deleted_at delete_at
deleted_is_read = refl

-- collection 1: a change of location a, up to its blocks; these begin at 13
abbrev change_of_a : List ℕ
change_of_a = 2 ∷ 8 ∷ 0 ∷ 0 ∷ 0 ∷ 1 ∷ 0 ∷ 1 ∷ 1 ∷ 1 ∷ 0x61 ∷ 0 ∷ 1 ∷ []

-- 198.51.100.0/24 is put there
abbrev changed : Command
changed = command.Cidr (Change 1 (record {
  put = true;
  location = 0x61 ∷ [];
  blocks = record { address = V4 (198 ∷ 51 ∷ 100 ∷ 0 ∷ []); length = 24 } ∷ [];
} ∷ []))

pub changed_is_written : command_octets changed
    ≡ change_of_a ++ 4 ∷ 198 ∷ 51 ∷ 100 ∷ 0 ∷ 24 ∷ []
changed_is_written = refl

pub changed_is_read : read (change_of_a ++ 4 ∷ 198 ∷ 51 ∷ 100 ∷ 0 ∷ 24 ∷ []) ≡ Ok changed
unfolding read versioned_at version_at command_at collection_changed_at change_collection_at change_at
    put_at text_at block_at short_at number_of
changed_is_read = refl

-- kinds 7 to 9 in version 1; names of no bytes and `*`
pub faults_in_kinds : map read ((1 ∷ 7 ∷ 2 ∷ 0x63 ∷ 0x31 ∷ []) ∷ (1 ∷ 8 ∷ 0 ∷ 0 ∷ 0 ∷ 1 ∷ 0 ∷ 0 ∷ [])
    ∷ (1 ∷ 9 ∷ 0 ∷ 0 ∷ 0 ∷ 1 ∷ []) ∷ (2 ∷ 7 ∷ 0 ∷ []) ∷ (2 ∷ 7 ∷ 1 ∷ 0x2A ∷ []) ∷ [])
    ≡ Err 1 ∷ Err 1 ∷ Err 1 ∷ Err 2 ∷ Err 2 ∷ []
unfolding read versioned_at version_at command_at collection_made_at create_at text_at
faults_in_kinds = refl

-- blocks: version 5; a bit behind the length; 33 bits; an address cut off
pub faults_in_blocks : map read ((change_of_a ++ 5 ∷ 198 ∷ 51 ∷ 100 ∷ 0 ∷ 24 ∷ [])
    ∷ (change_of_a ++ 4 ∷ 198 ∷ 51 ∷ 100 ∷ 1 ∷ 24 ∷ [])
    ∷ (change_of_a ++ 4 ∷ 198 ∷ 51 ∷ 100 ∷ 0 ∷ 33 ∷ []) ∷ (change_of_a ++ 4 ∷ 198 ∷ 51 ∷ []) ∷ [])
    ≡ Err 13 ∷ Err 18 ∷ Err 18 ∷ Err 16 ∷ []
unfolding read versioned_at version_at command_at collection_changed_at change_collection_at change_at
    put_at text_at block_at short_at number_of
faults_in_blocks = refl
