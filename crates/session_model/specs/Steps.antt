-- What a control line makes of a session, and what is replied and sent.
use Rattle.std.specs.Prelude.{◌≡◌, ◌⊎◌, ℕ, List, [], Bool, true, false, Option, Result, Ok, Err}
use Rattle.batch_json.specs.declared.asking.Line.{Line}
use Rattle.batch_json.specs.declared.asking.Line.TheVariants as line
use Rattle.config_model.specs.declared.refusals.Made.{Made}
use Rattle.config_model.specs.declared.refusals.Refusal.{Refusal}
use Rattle.engine_model.specs.Compacting.{CompactionSteps}
use Rattle.engine_model.specs.Engine.{CommandSteps, Engine, QueryGives, ReportSteps}
use Rattle.engine_model.specs.declared.answers.Compacted.{Compacted}
use Rattle.engine_model.specs.declared.answers.Reported.{Reported}
use Rattle.geo_latency.specs.declared.tables.Tables.{Tables}
use Rattle.health_model.specs.Statuses.{status_told}
use Rattle.line_faults.specs.declared.fault.LineFault.{LineFault}
use Rattle.query_lines.specs.declared.serving.Ports.{Ports}
use Rattle.r53_io.specs.Network.{Incoming}
use Rattle.rand_core.specs.Stream.{Stream}
use Rattle.reply_model.specs.Outcomes.{text_of}
use Rattle.reply_model.specs.declared.outcomes.Outcome.TheVariants as outcome
use Rattle.session_model.specs.Asking.{Asks}
use Rattle.session_model.specs.Replies.{command_outcome, compact_outcome, list_text, query_text}
use Rattle.session_model.specs.Replies.{report_outcome, status_outcome}
use Rattle.session_model.specs.Serving.{Datagram, TurnsOutcome, TakesTurns, none}

-- Where a session stands: the store, whether ports are bound, the arrivals to come from the network,
-- and the random words to be drawn.
pub record State : Type 0 where
  pub engine : Engine
  pub bound : Bool
  pub arrivals : List Incoming
  pub words : Stream

-- What a session is over: the tables, and the two ports that the network gives where two are asked
-- for.
pub record Surroundings : Type 0 where
  pub tables : Tables
  pub given : ℕ → ℕ → ℕ × ℕ

-- the ports that are given where these are asked for
abbrev pub given_for : Surroundings → Ports → Ports
given_for around asked = record {
  queries = (around.given asked.queries asked.reports).0;
  reports = (around.given asked.queries asked.reports).1;
}

-- What a line came to: where the session stands, the reply line, and the datagrams that were sent.
pub record Step : Type 0 where
  pub new : State
  pub reply : List ℕ
  pub sent : List Datagram

-- ---- serving

-- turns begin
abbrev pub at_first_turn : State → TurnsOutcome
at_first_turn old = record { engine = old.engine; words = old.words; turns = none; sent = [] }

-- the session behind turns
abbrev pub after_turns : State → (left : List Incoming) → TurnsOutcome → Step
after_turns old left served = record {
  new = record old { engine = served.engine; arrivals = left; words = served.words };
  reply = text_of (outcome.Served served.turns);
  sent = served.sent;
}

-- ---- a line that was read

-- nothing but the store changes, and nothing is sent
abbrev pub replied : State → Engine → (reply : List ℕ) → Step
replied old engine reply = record {
  new = record old { engine = engine };
  reply = reply;
  sent = [];
}

abbrev pub LineSteps : Surroundings → Line → (old : State) → Step → Type 0
LineSteps around (line.Control given) old step =
    (came : Result Made Refusal) × (after : Engine) × CommandSteps old.engine given came after
    × (step ≡ replied old after (text_of (command_outcome given came)))
LineSteps around (line.List asked) old step =
    step ≡ replied old old.engine (list_text old.engine.config asked)
LineSteps around (line.Status id) old step =
    step ≡ replied old old.engine
    (text_of (status_outcome id (status_told old.engine.config.checks.list old.engine.reports id)))
LineSteps around (line.Observe seen) old step =
    (came : Reported) × (after : Engine)
    × ReportSteps old.engine seen.id seen.checker seen.pass came after
    × (step ≡ replied old after (text_of (report_outcome seen.id came)))
LineSteps around (line.Query asked) old step =
    (answer : Option (List ℕ))
    × QueryGives old.engine around.tables
    (record { peer = asked.address; words = asked.words }) asked.packet answer
    × (step ≡ replied old old.engine (query_text answer))
LineSteps around (line.Bind ports) old step =
    ((old.bound ≡ true) × (step ≡ replied old old.engine (text_of outcome.AlreadyBound)))
    ⊎ ((old.bound ≡ false) × (step ≡ record {
      new = record old { bound = true };
      reply = text_of (outcome.Bound (given_for around ports));
      sent = [];
    }))
LineSteps around (line.Serve turns) old step =
    ((old.bound ≡ false) × (step ≡ replied old old.engine (text_of outcome.NotBound)))
    ⊎ ((old.bound ≡ true) × (left : List Incoming) × (served : TurnsOutcome)
    × TakesTurns around.tables turns old.arrivals (at_first_turn old) left served
    × (step ≡ after_turns old left served))
LineSteps around (line.Compact pieces) old step =
    (came : Compacted) × (after : Engine) × CompactionSteps old.engine pieces came after
    × (step ≡ replied old after (text_of (compact_outcome came)))

-- ---- a line of octets

-- what was read of a line, or its fault
abbrev pub ToldSteps : Surroundings → Result Line LineFault → (old : State) → Step → Type 0
ToldSteps around (Ok asked) old step = LineSteps around asked old step
ToldSteps around (Err fault) old step =
    step ≡ replied old old.engine (text_of (outcome.NotRead fault))

-- A line is read, and what it asks for is done.
abbrev pub OctetsStep : Surroundings → (line : List ℕ) → (old : State) → Step → Type 0
OctetsStep around line old step =
    (told : Result Line LineFault) × Asks line told × ToldSteps around told old step
