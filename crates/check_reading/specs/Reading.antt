-- Reading commands on health checks from left to right, with the first fault that is met (FORMATS,
-- Octets of commands).
use Rattle.std.specs.Prelude.{ℕ, List, [], ◌∷◌, Bool, Option, Result}
use Rattle.check_octets.specs.Reading.{four_at, flag_at}
use Rattle.check_octets.specs.Readers.{Reader, mapped, in_turn, list_at, optional_at, kinds}
use Rattle.check_model.specs.declared.checks.Check.{Check}
use Rattle.check_model.specs.declared.checks.Check.TheVariants.{Endpoint, Calculated}
use Rattle.check_model.specs.declared.checks.CheckCommand.{CheckCommand}
use Rattle.check_model.specs.declared.checks.CheckCommand.TheVariants.{Create, Update, Delete}
use Rattle.check_reading.specs.Fields.{failures_at, threshold_at, disabled_at, disabling_at}
use Rattle.check_reading.specs.Fields.{children_at}

-- an endpoint's threshold, inverted and disabled
abbrev pub endpoint : (ℕ × Bool) × Bool → Check
endpoint fields = Endpoint fields.0.0 fields.0.1 fields.1

unfoldable pub endpoint_at : (version : ℕ) → List ℕ → Result (Check × List ℕ) ℕ
endpoint_at version octets =
    mapped endpoint (in_turn (in_turn failures_at flag_at) (disabled_at version)) octets

-- a calculated check's threshold, inverted, disabled and children
abbrev pub calculated : ((ℕ × Bool) × Bool) × List ℕ → Check
calculated fields = Calculated fields.0.0.0 fields.0.0.1 fields.0.1 fields.1

unfoldable pub calculated_at : (version : ℕ) → List ℕ → Result (Check × List ℕ) ℕ
calculated_at version octets =
    mapped calculated
    (in_turn (in_turn (in_turn threshold_at flag_at) (disabled_at version)) children_at) octets

-- the kinds of checks, a line each
abbrev pub check_kinds : (version : ℕ) → List (ℕ × Reader Check)
check_kinds version = (1, endpoint_at version) ∷ (2, calculated_at version) ∷ []

unfoldable pub check_at : (version : ℕ) → List ℕ → Result (Check × List ℕ) ℕ
check_at version octets = kinds (check_kinds version) octets

-- a new check
unfoldable pub create_at : (version : ℕ) → List ℕ → Result (CheckCommand × List ℕ) ℕ
create_at version octets = mapped Create (check_at version) octets

-- a check's number, and what is given of inverted, disabled, threshold and children
abbrev pub updated : (((ℕ × Option Bool) × Option Bool) × Option ℕ) × Option (List ℕ)
    → CheckCommand
updated fields = Update fields.0.0.0.0 fields.0.0.0.1 fields.0.0.1 fields.0.1 fields.1

unfoldable pub update_at : (version : ℕ) → List ℕ → Result (CheckCommand × List ℕ) ℕ
update_at version octets =
    mapped updated
    (in_turn (in_turn (in_turn (in_turn four_at (optional_at flag_at)) (disabling_at version))
    (optional_at threshold_at)) (optional_at (list_at four_at))) octets

-- a check's number
unfoldable pub delete_at : List ℕ → Result (CheckCommand × List ℕ) ℕ
delete_at octets = mapped Delete four_at octets
