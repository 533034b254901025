-- What a checker's result leaves of an index.
use Rattle.std.proofs.Common.{◌≡◌, ℕ, Bool, List, set, sym, Some, Option}
use Rattle.std.specs.Prelude.{slice_get}
use mathlib.Core.Path.{subst}
use Rattle.checker_state.specs.Standing.{Seen}
use Rattle.health_valves.specs.Valves.{ValvesStandFor, with_own}
use Rattle.health_valves.specs.Pass.{IsIdle}
use Rattle.health_valves.specs.declared.valves.Valves.{Valves}
use Rattle.health_index.specs.Index.{Index, IsIntact, Space}
use Rattle.health_index.specs.Taking.{IsTaken}
use Rattle.health_index.proofs.Reporting.{whole_after}

-- what was taken, by the lists and the answer that are known
pub taken : (checker : ℕ) (pass : Bool) (before items after : List (Option Seen)) (place : ℕ)
    (answer known : Option ℕ) → before ≡ items → answer ≡ known
    → IsTaken checker pass before place answer after → IsTaken checker pass items place known after
taken checker pass before items after place answer known same is took =
    subst (λ a. IsTaken checker pass items place a after) is
    (subst (λ l. IsTaken checker pass l place answer after) same took)

module _ (index : Index) (whole : IsIntact index) (seen : List (Option Seen)) (space : Space) where
  -- one more result was
  pub whole_taken : (place valve given : ℕ) (its now : Seen) (valves : Valves)
      → slice_get index.seen place ≡ Some (Some its) → seen ≡ set index.seen place (Some now)
      → ValvesStandFor whole.net (with_own valve given whole.own) valves → IsIdle valves
      → IsIntact (record index { seen = seen; valves = valves; space = space })
  whole_taken place valve given its now valves here is fits idle =
      subst (λ s. IsIntact (record index { seen = s; valves = valves; space = space })) (sym is)
      (whole_after index whole place valve given its now valves space here fits idle)
