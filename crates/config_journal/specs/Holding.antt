-- When two files hold a configuration.
use Rattle.std.specs.Prelude.{◌≡◌, List, ℕ, Some}
use Rattle.config_journal.specs.States.{State, config_of}
use Rattle.file_building.specs.Building.{Plan}
use Rattle.store_model.specs.Leaving.{IsPlanFor}
use Rattle.store_model.specs.Opening.{OpensAs}

-- The snapshot of the file that decides, with the commands of its entries, is the configuration; and
-- where a compaction is in progress its snapshot, with the commands since it began, is too.
pub record Holds (state : State) (x y : List ℕ) : Type 0 where
  pub snapshot : List ℕ
  pub entries : List (List ℕ)
  pub opens : OpensAs x y state.journal.generation snapshot entries (config_of state)
  pub plan : (plan : Plan) → state.journal.plan ≡ Some plan
      → IsPlanFor plan.snapshot plan.from state.journal.generation snapshot entries
      (config_of state)
