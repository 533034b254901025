-- A session is determined by where it stands, its lines, what it is over, and its choices.
use Rattle.std.specs.Prelude.{◌≡◌, ℕ, List, Bool, Option, Result}
use Rattle.batch_json.specs.declared.asking.Line.{Line}
use Rattle.line_faults.specs.declared.fault.LineFault.{LineFault}
use Rattle.line_splitting.specs.Lines.{Event}
use Rattle.session_model.specs.Asking.{Asks}
use Rattle.session_model.specs.Sessions.{ComesTo, Session}
use Rattle.session_model.specs.Steps.{OctetsStep, State, Step, Surroundings}

-- Octets ask for one thing, or have one first fault.
abbrev pub OneAsked : Type 0
OneAsked = (line : List ℕ) (told other : Result Line LineFault)
    → Asks line told → Asks line other → told ≡ other

-- A line has one step.
abbrev pub OneStep : Type 0
OneStep = (around : Surroundings) (line : List ℕ) (old : State) (step other : Step)
    → OctetsStep around line old step → OctetsStep around line old other → step ≡ other

abbrev pub OneSession : Type 0
OneSession = (around : Surroundings) (lines : List Event) (choices : List Bool) (old : State)
    (session other : Session)
    → ComesTo around lines choices old session → ComesTo around lines choices old other
    → session ≡ other
