-- What commands on health checks keep.
use Rattle.std.specs.Prelude.{◌≡◌, ◌≢◌, ℕ, [], Option, None, Some, Ok, option_map}
use Rattle.check_model.specs.declared.checks.Check.{Check}
use Rattle.check_model.specs.declared.checks.CheckCommand.{CheckCommand}
use Rattle.check_model.specs.declared.checks.CheckCommand.TheVariants.{Create, Update, Delete}
use Rattle.check_model.specs.Checks.{Checks, IsSound, check_with}
use Rattle.check_model.specs.Commands.{IsBoundedCommand, outcome, given_by, updated_check}

-- What a command makes of sound checks is sound.
abbrev pub KeepsSound : Type 0
KeepsSound =
    (checks after : Checks) (command : CheckCommand) (id : ℕ)
    → IsSound checks → IsBoundedCommand command → outcome checks command ≡ Ok (after, id)
    → IsSound after

-- No checks, the first of which gets number 1, are sound.
abbrev pub NoneAreSound : Type 0
NoneAreSound = IsSound (record { next = 1; list = [] })

-- what a command makes of the check that it names
abbrev pub its_check : CheckCommand → Option Check → Option Check
its_check (Create check) before = Some check
its_check (Update id inverted disabled threshold children) before =
    option_map (updated_check (given_by inverted disabled threshold children)) before
its_check (Delete id) before = None

-- A command makes that of the check that it names, and leaves the others.
pub record KeepsRest : Type 0 where
  pub its : (checks after : Checks) (command : CheckCommand) (id : ℕ)
      → IsSound checks → outcome checks command ≡ Ok (after, id)
      → check_with after.list id ≡ its_check command (check_with checks.list id)
  pub others : (checks after : Checks) (command : CheckCommand) (id other : ℕ)
      → IsSound checks → outcome checks command ≡ Ok (after, id) → other ≢ id
      → check_with after.list other ≡ check_with checks.list other
