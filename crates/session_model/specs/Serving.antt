-- Turns of a Serve line: arrivals from the network, one after another.
use Rattle.std.specs.Prelude.{◌≡◌, ◌⊎◌, ℕ, zero, suc, ◌+◌, List, [], ◌∷◌, ◌++◌, Bool, Option, None, Some}
use Rattle.address_text.specs.declared.address.IpAddress.{IpAddress}
use Rattle.check_lines.specs.declared.observing.Observation.{Observation}
use Rattle.engine_model.specs.Engine.{Engine, IsEndpoint, QueryGives}
use Rattle.geo_latency.specs.declared.tables.Tables.{Tables}
use Rattle.r53_io.specs.declared.network.Peer.{Peer}
use Rattle.r53_io.specs.Network.{Dns, Incoming, Quiet, Report}
use Rattle.report_lines.specs.Reports.{report_of}
use Rattle.rand_core.specs.Stream.{Stream, next_u64}
use Rattle.reply_model.specs.declared.outcomes.Turns.{Turns}

-- A datagram that is sent, and to whom.
abbrev pub Datagram : Type 0
Datagram = Peer × List ℕ

-- ---- words

-- the next so many words of a stream
abbrev pub words_of : (n : ℕ) → Stream → List ℕ
words_of zero stream = []
words_of (suc n) stream = (next_u64 stream).0 ∷ words_of n (next_u64 stream).1

-- the stream behind them
abbrev pub behind_words : (n : ℕ) → Stream → Stream
behind_words zero stream = stream
behind_words (suc n) stream = behind_words n (next_u64 stream).1

-- ---- turns

-- What turns come to: the store, the words to be drawn, how many turns came to what, and what was
-- sent.
pub record TurnsOutcome : Type 0 where
  pub engine : Engine
  pub words : Stream
  pub turns : Turns
  pub sent : List Datagram

abbrev pub none : Turns
none = record { turns = 0; answered = 0; silent = 0; reports = 0; unknown = 0; quiet = 0 }

-- one turn more
abbrev pub answered_too : Turns → Turns
answered_too t = record t { turns = t.turns + 1; answered = t.answered + 1 }

abbrev pub silent_too : Turns → Turns
silent_too t = record t { turns = t.turns + 1; silent = t.silent + 1 }

abbrev pub reported_too : Turns → Turns
reported_too t = record t { turns = t.turns + 1; reports = t.reports + 1 }

abbrev pub unknown_too : Turns → Turns
unknown_too t = record t { turns = t.turns + 1; unknown = t.unknown + 1 }

abbrev pub quiet_too : Turns → Turns
quiet_too t = record t { turns = t.turns + 1; quiet = t.quiet + 1 }

-- a packet's turn: eight words are drawn, also where nothing is answered
abbrev pub after_packet : Peer → (answer : Option (List ℕ)) → TurnsOutcome → TurnsOutcome
after_packet peer None old = record old {
  words = behind_words 8 old.words;
  turns = silent_too old.turns;
}
after_packet peer (Some octets) old = record old {
  words = behind_words 8 old.words;
  turns = answered_too old.turns;
  sent = old.sent ++ (peer, octets) ∷ [];
}

-- A datagram is this report, which is on the check of an endpoint.
abbrev pub IsKnown : Engine → (octets : List ℕ) → Observation → Type 0
IsKnown engine octets seen = (report_of octets ≡ Some seen) × IsEndpoint engine.config seen.id

-- with one report more
abbrev pub after_report : Observation → TurnsOutcome → TurnsOutcome
after_report seen old = record old {
  engine = record old.engine {
    reports = record { check = seen.id; checker = seen.checker; pass = seen.pass }
        ∷ old.engine.reports;
  };
  turns = reported_too old.turns;
}

-- what an arrival makes of a store
abbrev pub TakesTurn : Tables → Incoming → (old new : TurnsOutcome) → Type 0
TakesTurn tables (Dns peer packet) old new =
    (answer : Option (List ℕ))
    × QueryGives old.engine tables (record { peer = peer.address; words = words_of 8 old.words })
    packet answer
    × (new ≡ after_packet peer answer old)
TakesTurn tables (Report octets) old new =
    ((seen : Observation) × IsKnown old.engine octets seen × (new ≡ after_report seen old))
    ⊎ (((seen : Observation) → IsKnown old.engine octets seen → ⊥)
    × (new ≡ record old { turns = unknown_too old.turns }))
TakesTurn tables Quiet old new = new ≡ record old { turns = quiet_too old.turns }

-- So many turns of these arrivals, or as many as there are: then the network is closed.
abbrev pub TakesTurns : Tables → (n : ℕ) → (arrivals : List Incoming) → (old : TurnsOutcome)
    → (left : List Incoming) → (new : TurnsOutcome) → Type 0
TakesTurns tables zero arrivals old left new = (left ≡ arrivals) × (new ≡ old)
TakesTurns tables (suc n) [] old left new = (left ≡ []) × (new ≡ old)
TakesTurns tables (suc n) (arrival ∷ more) old left new =
    (mid : TurnsOutcome) × TakesTurn tables arrival old mid × TakesTurns tables n more mid left new
