-- Commands on health checks by hand, in both versions, and each kind of fault.
use Rattle.std.proofs.Common.{◌≡◌, ℕ, List, [], ◌∷◌, map, refl, true, false, None, Some, Ok, Err}
use Rattle.check_model.specs.declared.checks.Check.TheVariants.{Endpoint, Calculated}
use Rattle.check_model.specs.declared.checks.CheckCommand.TheVariants.{Create, Update, Delete}
use Rattle.check_reading.specs.Fields.{failures_at, threshold_at, disabled_at, disabling_at}
use Rattle.check_reading.specs.Fields.{few_at, children_at}
use Rattle.check_reading.specs.Reading.{endpoint_at, calculated_at, check_at, update_at}
use Rattle.check_reading.specs.Reading as checks
use Rattle.command_octets.specs.declared.commands.Command.{Command}
use Rattle.command_octets.specs.declared.commands.Command.TheVariants as command
use Rattle.command_octets.specs.Octets.{command_octets, spelling}
use Rattle.command_codec.specs.Reading.{version_at, check_made_at, check_changed_at}
use Rattle.command_codec.specs.Reading.{check_deleted_at, command_at, versioned_at, read}

-- an endpoint's check of threshold 3, neither inverted nor disabled
abbrev endpoint : Command
endpoint = command.Health (Create (Endpoint 3 false false))

pub endpoint_is_written : command_octets endpoint ≡ 2 ∷ 4 ∷ 1 ∷ 3 ∷ 0 ∷ 0 ∷ []
endpoint_is_written = refl

pub endpoint_was_written : spelling 1 endpoint ≡ 1 ∷ 4 ∷ 1 ∷ 3 ∷ 0 ∷ []
endpoint_was_written = refl

pub endpoint_is_read : map read ((2 ∷ 4 ∷ 1 ∷ 3 ∷ 0 ∷ 0 ∷ []) ∷ (1 ∷ 4 ∷ 1 ∷ 3 ∷ 0 ∷ []) ∷ [])
    ≡ Ok endpoint ∷ Ok endpoint ∷ []
unfolding read versioned_at version_at command_at check_made_at checks.create_at check_at endpoint_at
    failures_at disabled_at
endpoint_is_read = refl

-- one of the checks 1 and 258, inverted and disabled
abbrev calculated : Command
calculated = command.Health (Create (Calculated 1 true true (1 ∷ 258 ∷ [])))

abbrev calculated_octets : List ℕ
calculated_octets = 2 ∷ 4 ∷ 2 ∷ 0 ∷ 1 ∷ 1 ∷ 1 ∷ 0 ∷ 2 ∷ 0 ∷ 0 ∷ 0 ∷ 1 ∷ 0 ∷ 0 ∷ 1 ∷ 2 ∷ []

pub calculated_is_written : command_octets calculated ≡ calculated_octets
calculated_is_written = refl

pub calculated_is_read : read calculated_octets ≡ Ok calculated
unfolding read versioned_at version_at command_at check_made_at checks.create_at check_at calculated_at
    threshold_at disabled_at few_at children_at
calculated_is_read = refl

-- check 7 is inverted, and passes where two of its children do, which is check 9
abbrev update : Command
update = command.Health (Update 7 (Some true) None (Some 2) (Some (9 ∷ [])))

abbrev update_octets : List ℕ
update_octets = 2 ∷ 5 ∷ 0 ∷ 0 ∷ 0 ∷ 7 ∷ 1 ∷ 1 ∷ 0 ∷ 1 ∷ 0 ∷ 2 ∷ 1 ∷ 0 ∷ 1 ∷ 0 ∷ 0 ∷ 0 ∷ 9 ∷ []

abbrev old_update_octets : List ℕ
old_update_octets = 1 ∷ 5 ∷ 0 ∷ 0 ∷ 0 ∷ 7 ∷ 1 ∷ 1 ∷ 1 ∷ 0 ∷ 2 ∷ 1 ∷ 0 ∷ 1 ∷ 0 ∷ 0 ∷ 0 ∷ 9 ∷ []

pub update_is_written : command_octets update ≡ update_octets
update_is_written = refl

pub update_is_read : map read (update_octets ∷ old_update_octets ∷ [])
    ≡ Ok update ∷ Ok update ∷ []
unfolding read versioned_at version_at command_at check_changed_at update_at disabling_at threshold_at
update_is_read = refl

pub delete_is_read : map read ((2 ∷ 6 ∷ 0 ∷ 0 ∷ 0 ∷ 7 ∷ []) ∷ (1 ∷ 6 ∷ 0 ∷ 0 ∷ 0 ∷ 7 ∷ []) ∷ [])
    ≡ Ok (command.Health (Delete 7)) ∷ Ok (command.Health (Delete 7)) ∷ []
unfolding read versioned_at version_at command_at check_deleted_at checks.delete_at
delete_is_read = refl

-- thresholds of 0 and 11; a check of kind 3; disabled in version 1, and none in version 2; a threshold
-- of 257; 256 children, of which none follows
pub faults_in_checks : map read ((1 ∷ 4 ∷ 1 ∷ 0 ∷ 0 ∷ []) ∷ (2 ∷ 4 ∷ 1 ∷ 11 ∷ 0 ∷ 0 ∷ [])
    ∷ (2 ∷ 4 ∷ 3 ∷ []) ∷ (1 ∷ 4 ∷ 1 ∷ 3 ∷ 0 ∷ 0 ∷ []) ∷ (2 ∷ 4 ∷ 1 ∷ 3 ∷ 0 ∷ [])
    ∷ (2 ∷ 4 ∷ 2 ∷ 1 ∷ 1 ∷ 0 ∷ 0 ∷ 0 ∷ 0 ∷ []) ∷ (2 ∷ 4 ∷ 2 ∷ 0 ∷ 1 ∷ 0 ∷ 0 ∷ 1 ∷ 0 ∷ []) ∷ [])
    ≡ Err 3 ∷ Err 3 ∷ Err 2 ∷ Err 5 ∷ Err 5 ∷ Err 3 ∷ Err 7 ∷ []
unfolding read versioned_at version_at command_at check_made_at checks.create_at check_at endpoint_at
    calculated_at failures_at threshold_at disabled_at few_at children_at
faults_in_checks = refl
