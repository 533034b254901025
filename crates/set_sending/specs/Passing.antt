-- A text that is passed on through a buffer into a sink: a first part of it is in the sink, the next
-- one in the buffer, and the rest is to come.
use Rattle.std.specs.Prelude.{◌≡◌, ℕ, List, ◌++◌, Option, Some}
use Rattle.whole_writing.specs.Output.{OutputOf}
use Rattle.whole_writing.specs.declared.output.Output.{Output}
use Rattle.whole_writing.specs.declared.output.Output.TheVariants as output

-- The sink held some octets before the text.
pub record IsPassed (held : List ℕ) (sink : Option (List ℕ)) (buffer rest text : List ℕ) : Type 0 where
  pub sent : List ℕ
  pub told : sink ≡ Some (held ++ sent)
  pub all : sent ++ (buffer ++ rest) ≡ text

-- so far, or a first part of the text that isn't the whole is in the sink
abbrev pub IsPassedOrFailed : (held : List ℕ) (sink : Option (List ℕ)) (buffer : List ℕ) → Output
    → (rest text : List ℕ) → Type 0
IsPassedOrFailed held sink buffer output.Whole rest text = IsPassed held sink buffer rest text
IsPassedOrFailed held sink buffer output.Failed rest text = OutputOf held sink output.Failed text

-- The next piece of a text was passed on, whatever the text is.
abbrev pub PassesOn : (sink : Option (List ℕ)) (buffer : List ℕ) (sink_now : Option (List ℕ))
    (buffer_now : List ℕ) → Output → (piece : List ℕ) → Type 0
PassesOn sink buffer sink_now buffer_now result piece = (held rest text : List ℕ)
    → IsPassed held sink buffer (piece ++ rest) text
    → IsPassedOrFailed held sink_now buffer_now result rest text
