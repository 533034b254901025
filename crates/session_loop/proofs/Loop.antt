-- What holds at each turn of the loop over an input.
use Rattle.std.proofs.Common.{◌≡◌, ◌≤◌, ℕ, List, [], ◌++◌, Option, Some, append-nil, ap, refl, sym, ◌∙◌}
use Rattle.line_splitting.specs.Reading.{Reader, events}
use Rattle.r53_io.specs.Network.{Incoming}
use Rattle.rand_core.specs.Stream.{Stream}
use Rattle.engine_model.specs.Engine.{Engine}
use Rattle.session_loop.specs.Ending.{AppliesSome}
use Rattle.session_loop.specs.Turning.{GoesOn}
use Rattle.session_server.specs.Serving.{Datagram}
use Rattle.session_server.specs.Sessions.{begun}
use Rattle.session_server.specs.Steps.{State, Surroundings}
use Rattle.session_server.specs.Holding.{Holds}
use Rattle.session_server.specs.Standing.{Server, StandsFor}
use Rattle.session_server.specs.Stores.{StandsFor as StoreStandsFor}
use Rattle.zone_journal.specs.Pairs.{BothRead}
use Rattle.zone_journal.specs.Standing.{StandsOn}

-- no turn was made yet
pub at_first : (around : Surroundings) (reader : Reader) (left : List ℕ) (after : Option (List ℕ))
    (start : State) (server : Server) (network : Option (List Incoming)) (random : Stream)
    (held : List ℕ) (before : List Datagram) (out : Option (List ℕ))
    (sent : Option (List Datagram)) → after ≡ Some left → StandsFor start server network random
    → out ≡ Some held → sent ≡ Some before
    → GoesOn around reader reader left after start server network random held before out sent
at_first around reader left after start server network random held before out sent has stands tells
    was = record {
      seen = [];
      rest = left;
      session = begun start;
      parts = refl;
      has = has;
      first = record { done = []; choices = []; parts = refl; comes = refl };
      cut = refl;
      beyond = refl;
      going = λ is. is;
      whole = λ is more. refl;
      told = record {
        replies = tells ∙ ap Some (sym (append-nil held));
        datagrams = was ∙ ap Some (sym (append-nil before));
      };
      stands = stands;
    }

-- Since the loop began a session was gone through.
pub record Going {S D L R K : Type 0} (left_in : S → Option (List ℕ)) (in_faults : S → ℕ)
    (reading : D → Option (List ℕ)) (images : D → List ℕ → Type 0) (disk_faults : D → ℕ)
    (ports : L → Option (ℕ → ℕ → ℕ × ℕ)) (coming : L → Option (List Incoming))
    (sent_by : L → Option (List Datagram)) (link_faults : L → ℕ) (stream : R → Stream)
    (held_by : K → Option (List ℕ)) (out_faults : K → ℕ)
    (reader_old reader : Reader) (server_old server : Server) (input_old input : S)
    (a_old a b_old b : D) (link_old link : L) (words_old words : R) (out_old out : K)
    : Type 0 where
  pub stands : StandsOn reading images server.store.kept.journal a b
  pub holds : BothRead reading a_old b_old (Holds server_old.store.kept)
      → BothRead reading a b (Holds server.store.kept)
  pub makes : (engine : Engine) → StoreStandsFor engine server_old.store
      → (after : Engine) × AppliesSome engine.config after.config × StoreStandsFor after server.store
  pub tables : server.tables ≡ server_old.tables
  pub same_ports : ports link ≡ ports link_old
  pub in_counts : in_faults input_old ≤ in_faults input
  pub a_counts : disk_faults a_old ≤ disk_faults a
  pub b_counts : disk_faults b_old ≤ disk_faults b
  pub link_counts : link_faults link_old ≤ link_faults link
  pub out_counts : out_faults out_old ≤ out_faults out
  pub goes : (around : Surroundings) (start : State) (left : List ℕ) (held : List ℕ)
      (before : List Datagram) → around.tables ≡ server_old.tables
      → StandsFor start server_old (coming link_old) (stream words_old)
      → BothRead reading a_old b_old (Holds server_old.store.kept)
      → ports link_old ≡ Some around.given → left_in input_old ≡ Some left
      → held_by out_old ≡ Some held → sent_by link_old ≡ Some before
      → GoesOn around reader_old reader left (left_in input) start server (coming link)
      (stream words) held before (held_by out) (sent_by link)
