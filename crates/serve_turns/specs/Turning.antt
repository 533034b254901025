-- What turns leave of a network that tells what is to come and what was sent, by their answer.
use Rattle.std.specs.Prelude.{◌≡◌, ◌<◌, ◌≤◌, ◌+◌, ◌⊎◌, ℕ, List, [], ◌∷◌, ◌++◌, Bool, true, false, Option, Some}
use Rattle.check_lines.specs.declared.observing.Observation.{Observation}
use Rattle.session_model.specs.Engine.{Engine}
use Rattle.geo_latency.specs.declared.tables.Tables.{Tables}
use Rattle.health_model.specs.Statuses.{Report}
use Rattle.r53_core.specs.Stores.{StandsFor, State as Store}
use Rattle.r53_io.specs.Network.{Dns, Incoming}
use Rattle.r53_io.specs.declared.network.Peer.{Peer}
use Rattle.rand_core.specs.Stream.{Stream}
use Rattle.session_model.specs.TurnsRecord.{Turns}
use Rattle.serve_turns.specs.declared.serving.TurnsTaken.{TurnsTaken as Answer}
use Rattle.serve_turns.specs.declared.serving.TurnsTaken.TheVariants as answer
use Rattle.serve_turns.specs.declared.turning.Turn.{Turn}
use Rattle.serve_turns.specs.declared.turning.Turn.TheVariants as turn
use Rattle.session_model.specs.Serving.{Datagram, IsKnown, TurnsOutcome, TakesTurn, TakesTurns, none}

-- What stands where turns are taken: the random words to be drawn, the counts, what is to come and
-- what was sent.
pub record Standing : Type 0 where
  pub words : Stream
  pub turns : Turns
  pub coming : Option (List Incoming)
  pub sent : Option (List Datagram)

-- It is this that the definitions have, with these arrivals to come, where so much was sent before.
pub record IsAsDefined (before : List Datagram) (served : TurnsOutcome) (arrivals : List Incoming)
    (now : Standing) : Type 0 where
  pub words : served.words ≡ now.words
  pub turns : served.turns ≡ now.turns
  pub coming : now.coming ≡ Some arrivals
  pub sent : now.sent ≡ Some (before ++ served.sent)

-- A store stands for all that it stood for, with some reports more.
abbrev pub GoesOn : (old new : Store) → Type 0
GoesOn old new = (engine : Engine) → StandsFor engine old
    → (more : List Report) × StandsFor (record engine { reports = more ++ engine.reports }) new

-- ---- counts

-- no count is above that of all turns, and of these there are at most so many
pub record AreWithin (most : ℕ) (counts : Turns) : Type 0 where
  pub turns : counts.turns ≤ most
  pub answered : counts.answered ≤ counts.turns
  pub silent : counts.silent ≤ counts.turns
  pub reports : counts.reports ≤ counts.turns
  pub unknown : counts.unknown ≤ counts.turns
  pub quiet : counts.quiet ≤ counts.turns

-- a turn counts one, and what isn't a turn nothing
abbrev pub Counts : Turn → (old new : Turns) → Type 0
Counts turn.Taken old new = (new.turns ≡ old.turns + 1) × AreWithin new.turns new
Counts turn.Closed old new = new ≡ old
Counts turn.Failed old new = new ≡ old

-- ---- a report

abbrev pub with_report : Observation → Engine → Engine
with_report seen engine = record engine {
  reports = record { check = seen.id; checker = seen.checker; pass = seen.pass } ∷ engine.reports;
}

-- A datagram is a report that counts, and P of the store with it; or it is none.
abbrev pub IsReported : Bool → (engine : Engine) → (octets : List ℕ) → (P : Engine → Type 0) → Type 0
IsReported true engine octets P =
    (seen : Observation) × IsKnown engine octets seen × P (with_report seen engine)
IsReported false engine octets P = ((seen : Observation) → IsKnown engine octets seen → ⊥) × P engine

-- ---- where the network failed

-- Nothing more was taken, or one packet whose reply wasn't sent.
abbrev pub IsInHand : (left : List Incoming) → (coming : Option (List Incoming)) → Type 0
IsInHand left coming =
    (coming ≡ Some left)
    ⊎ ((peer : Peer) × (packet : List ℕ) × (more : List Incoming)
    × (left ≡ Dns peer packet ∷ more) × (coming ≡ Some more))

-- ---- one turn

-- The turn of a packet. Where the network failed its reply wasn't sent.
abbrev pub PacketLeaves : Turn → Tables → (before : List Datagram) → (peer : Peer)
    → (packet : List ℕ) → (old : TurnsOutcome) → (arrivals : List Incoming) → (P : Engine → Type 0)
    → (now : Standing) → Type 0
PacketLeaves turn.Taken tables before peer packet old arrivals P now =
    (new : TurnsOutcome) × TakesTurn tables (Dns peer packet) old new × P new.engine
    × IsAsDefined before new arrivals now
PacketLeaves turn.Closed tables before peer packet old arrivals P now = ⊥
PacketLeaves turn.Failed tables before peer packet old arrivals P now =
    P old.engine × (now.sent ≡ Some (before ++ old.sent)) × (now.coming ≡ Some arrivals)

-- One turn, where P tells what the store stands for after it. Where the network failed nothing was
-- taken, or a packet was taken and its reply not sent.
abbrev pub TurnLeaves : Turn → Tables → (before : List Datagram) → (old : TurnsOutcome)
    → (arrivals : List Incoming) → (P : Engine → Type 0) → (now : Standing) → Type 0
TurnLeaves turn.Taken tables before old arrivals P now =
    (came : Incoming) × (more : List Incoming) × (new : TurnsOutcome)
    × (arrivals ≡ came ∷ more) × TakesTurn tables came old new × P new.engine
    × IsAsDefined before new more now
TurnLeaves turn.Closed tables before old arrivals P now =
    (arrivals ≡ []) × P old.engine × IsAsDefined before old [] now
TurnLeaves turn.Failed tables before old arrivals P now =
    P old.engine × (now.sent ≡ Some (before ++ old.sent)) × IsInHand arrivals now.coming

-- ---- turns

-- where turns begin
abbrev pub first : Engine → Stream → TurnsOutcome
first engine words = record { engine = engine; words = words; turns = none; sent = [] }

abbrev pub with_turns : Turns → Standing → Standing
with_turns turns now = record now { turns = turns }

-- So many turns. Where the network failed, the datagrams that were sent are those of the turns that
-- ended, and what is left of what was to come is told.
abbrev pub TurnsLeave : Answer → Tables → (before : List Datagram) → (n : ℕ) → (old : TurnsOutcome)
    → (arrivals : List Incoming) → (P : Engine → Type 0) → (now : Standing) → Type 0
TurnsLeave (answer.Took turns) tables before n old arrivals P now =
    (left : List Incoming) × (new : TurnsOutcome) × TakesTurns tables n arrivals old left new
    × P new.engine × IsAsDefined before new left (with_turns turns now)
TurnsLeave answer.Failed tables before n old arrivals P now =
    (k : ℕ) × (left : List Incoming) × (new : TurnsOutcome) × (k < n)
    × TakesTurns tables k arrivals old left new × P new.engine
    × (now.sent ≡ Some (before ++ new.sent)) × IsInHand left now.coming
