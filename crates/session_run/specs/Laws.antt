-- What a session is over determines where it begins.
use Rattle.std.specs.Prelude.{◌≡◌, ℕ}
use Rattle.session_model.specs.Steps.{State}
use Rattle.session_run.specs.Running.{Given, IsBeginning}
use Rattle.store_model.specs.Opening.{IsNoStore}
use Rattle.zone_journal.specs.declared.answers.Side.{Side}

-- A session has one beginning at most.
abbrev pub OneBeginning : Type 0
OneBeginning = (given : Given) (start other : State)
    → IsBeginning given start → IsBeginning given other → start ≡ other

-- Where a session can begin, its files are not told to be no store.
abbrev pub NoStoreOrBeginning : Type 0
NoStoreOrBeginning = (given : Given) (start : State) (side : Side) (place : ℕ)
    → IsBeginning given start → IsNoStore given.x given.y side place → ⊥
