-- A session: the lines of an input, one after another.
use Rattle.std.specs.Prelude.{◌≡◌, ℕ, List, [], ◌∷◌, ◌++◌, Bool, true, false}
use Rattle.line_splitting.specs.Lines.{Event, Line, TooLong}
use Rattle.session_model.specs.Replies.{memory_text, too_long_text}
use Rattle.session_model.specs.Serving.{Datagram}
use Rattle.session_model.specs.Steps.{OctetsStep, State, Step, Surroundings}

-- What some lines came to: where the session stands, all reply lines, and all datagrams that were
-- sent.
pub record Session : Type 0 where
  pub new : State
  pub output : List ℕ
  pub sent : List Datagram

-- nothing was asked yet
abbrev pub begun : State → Session
begun old = record { new = old; output = []; sent = [] }

-- what comes of a step and of what follows
abbrev pub joined : Step → Session → Session
joined step more = record {
  new = more.new;
  output = step.reply ++ more.output;
  sent = step.sent ++ more.sent;
}

-- a line that changes nothing
abbrev pub told_alone : (reply : List ℕ) → State → Step
told_alone reply old = record { new = old; reply = reply; sent = [] }

-- What comes of a line. Where memory is wanted for it nothing else is told of it, and nothing changes:
-- that is the one thing of a session that nothing determines, and its choice tells it.
abbrev pub LineComes : Surroundings → (line : List ℕ) → (wanted : Bool) → (old : State) → Step
    → Type 0
LineComes around line true old step = step ≡ told_alone memory_text old
LineComes around line false old step = OctetsStep around line old step

-- The lines of an input from where a session stands, with a choice for each line that isn't too long.
abbrev pub ComesTo : Surroundings → (lines : List Event) → (choices : List Bool) → (old : State)
    → Session → Type 0
ComesTo around [] [] old session = session ≡ begun old
ComesTo around [] (choice ∷ choices) old session = ⊥
ComesTo around (TooLong ∷ lines) choices old session =
    (more : Session) × ComesTo around lines choices old more
    × (session ≡ joined (told_alone too_long_text old) more)
ComesTo around (Line line ∷ lines) [] old session = ⊥
ComesTo around (Line line ∷ lines) (choice ∷ choices) old session =
    (step : Step) × (more : Session) × LineComes around line choice old step
    × ComesTo around lines choices step.new more × (session ≡ joined step more)
