-- What reading commands on health checks tells.
use Rattle.std.specs.Prelude.{◌≡◌, ℕ}
use Rattle.check_octets.specs.Rules.{IsReadAs}
use Rattle.check_model.specs.declared.checks.CheckCommand.{CheckCommand}
use Rattle.check_octets.specs.Octets.{kind_of, field_octets, HasSpelling}
use Rattle.check_reading.specs.Reading.{create_at, update_at, delete_at}

-- a command of the kind that has a spelling in the version
abbrev pub IsOfKind : (version kind : ℕ) → CheckCommand → Type 0
IsOfKind version kind command = HasSpelling version command × (kind_of command ≡ kind)

-- The fields of each kind are read as they are written, and as nothing else.
pub record CheckCommandsAreRead : Type 0 where
  pub created : (version : ℕ)
      → IsReadAs (IsOfKind version 4) (field_octets version) (create_at version)
  pub updated : (version : ℕ)
      → IsReadAs (IsOfKind version 5) (field_octets version) (update_at version)
  pub deleted : (version : ℕ) → IsReadAs (IsOfKind version 6) (field_octets version) delete_at
