-- What a turn of the loop leaves.
use Rattle.std.specs.Prelude.{◌≡◌, ℕ, List, ◌++◌, drop, if◌then◌else◌, false, Option, None, Some}
use Rattle.line_splitting.specs.Reading.{Reader, events, is_over_limit, whole}
use Rattle.r53_io.specs.Network.{Incoming}
use Rattle.rand_core.specs.Stream.{Stream}
use Rattle.session_loop.specs.Ending.{AllTold, Ends, First, Input}
use Rattle.session_loop.specs.declared.ended.Ended.{Ended}
use Rattle.session_loop.specs.declared.ended.Ended.TheVariants as ended
use Rattle.session_server.specs.Serving.{Datagram}
use Rattle.session_server.specs.Sessions.{Session}
use Rattle.session_server.specs.Steps.{State, Surroundings}
use Rattle.session_server.specs.Standing.{Server, StandsFor}
use Rattle.session_server.specs.Taken.{Taken}
use Rattle.session_server.specs.Taken.TheVariants as taken

-- how the lines ended with a line, if they did
abbrev pub ended_of : Taken → Option Ended
ended_of taken.Replied = None
ended_of taken.WriteFault = Some ended.WriteFault
ended_of taken.DiskFault = Some ended.DiskFault
ended_of taken.LinkFault = Some ended.LinkFault

-- what a reader doesn't take of what its source has left
abbrev pub beyond : Reader → (left : List ℕ) → List ℕ
beyond r left = if r.ended then left else drop r.budget left

-- the input that a reader has to come, where its source has these bytes left
abbrev pub input_of : Reader → (left : List ℕ) → Input
input_of r left = record {
  octets = left;
  lines = events r left;
  is_long = is_over_limit r left;
  beyond = beyond r left;
  ending_in = whole r;
}

-- A session over the first lines that a reader had to come, of which it has the others to come still,
-- all told; and the server stands where it does. The lines and those that wait whole are those that end
-- within what was read.
pub record GoesOn (around : Surroundings) (old new : Reader) (left : List ℕ)
    (after : Option (List ℕ)) (start : State) (server : Server) (network : Option (List Incoming))
    (random : Stream) (held : List ℕ) (before : List Datagram) (out : Option (List ℕ))
    (sent : Option (List Datagram)) : Type 0 where
  pub seen : List ℕ
  pub rest : List ℕ
  pub session : Session
  pub parts : left ≡ seen ++ rest
  pub has : after ≡ Some rest
  pub first : First around (events old left) start (events new rest) session
  pub cut : is_over_limit new rest ≡ is_over_limit old left
  pub beyond : beyond new rest ≡ beyond old left
  pub going : new.ended ≡ false → old.ended ≡ false
  pub whole : new.ended ≡ false → (more : List ℕ)
      → first.done ++ whole new more ≡ whole old (seen ++ more)
  pub told : AllTold session held before out sent
  pub stands : StandsFor session.new server network random

abbrev pub RoundLeaves : {D : Type 0} → Option Ended → (images : D → List ℕ → Type 0) → (a b : D)
    → Surroundings → (old new : Reader) → (left : List ℕ) → (after : Option (List ℕ))
    → (start : State) → Server → (network : Option (List Incoming)) → (random : Stream)
    → (held : List ℕ) → (before : List Datagram) → (out : Option (List ℕ))
    → (sent : Option (List Datagram)) → Type 0
RoundLeaves None images a b around old new left after start server network random held before out
    sent =
    GoesOn around old new left after start server network random held before out sent
RoundLeaves (Some ended) images a b around old new left after start server network random held
    before out sent =
    Ends ended images a b around (input_of old left) start held before after network random out sent
