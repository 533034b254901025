-- What reading commands on collections tells.
use Rattle.std.specs.Prelude.{◌≡◌, ℕ}
use Rattle.block_octets.specs.Rules.{IsReadAs}
use Rattle.block_octets.specs.CidrCommandRecord.{CidrCommand}
use Rattle.block_octets.specs.Octets.{kind_of, field_octets, HasSpelling}
use Rattle.block_reading.specs.Reading.{create_at, change_collection_at, delete_at}

-- a command of the kind that has a spelling
abbrev pub IsOfKind : (kind : ℕ) → CidrCommand → Type 0
IsOfKind kind command = HasSpelling command × (kind_of command ≡ kind)

-- The fields of each kind are read as they are written, and as nothing else.
pub record CidrCommandsAreRead : Type 0 where
  pub created : IsReadAs (IsOfKind 7) field_octets create_at
  pub changed : IsReadAs (IsOfKind 8) field_octets change_collection_at
  pub deleted : IsReadAs (IsOfKind 9) field_octets delete_at
