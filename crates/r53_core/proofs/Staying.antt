-- Files that hold a configuration hold it where nothing but room changed.
use Rattle.std.proofs.Common.{◌≡◌, List, ℕ, Option, sym, subst}
use Rattle.r53_core.proofs.Told.{holds_of, to_told}
use Rattle.config_opening.specs.Holding.{Holds}
use Rattle.config_opening.specs.States.{State, config_of}
use Rattle.config_opening.specs.Steps.{StaysSo}
use Rattle.config_opening.proofs.Weakening.{leaves_weaken}
use Rattle.zone_journal.specs.Pairs.{BothRead}

pub holds_on : (old new : State) → StaysSo old new → (x y : List ℕ) → Holds old x y → Holds new x y
holds_on old new stays x y held =
    holds_of new old.journal (config_of old) stays.journal stays.config x y (to_told old x y held)

pub read_on : {D : Type 0} (reading : D → Option (List ℕ)) (a b : D) (inside now new : State)
    → inside ≡ now → StaysSo inside new → BothRead reading a b (Holds now)
    → BothRead reading a b (Holds new)
read_on reading a b inside now new same stays held =
    leaves_weaken (Holds now) (Holds new)
    (λ x y holds. holds_on inside new stays x y
    (subst (λ (s : State). Holds s x y) (sym same) holds)) reading a b held
