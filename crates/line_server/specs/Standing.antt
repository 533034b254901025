-- A server, and where a session stands of which it is.
use Rattle.std.specs.Prelude.{◌≡◌, Bool, List, Option, Some}
use Rattle.geo_latency.specs.declared.tables.Tables.{Tables}
use Rattle.serve_turns.specs.Stores.{State as Store, StandsFor as StoreStandsFor}
use Rattle.r53_io.specs.Network.{Incoming}
use Rattle.rand_core.specs.Stream.{Stream}
use Rattle.serve_turns.specs.Steps.{State}

-- The store, the tables, and whether ports are bound.
pub record Server : Type 0 where
  pub store : Store
  pub tables : Tables
  pub bound : Bool

-- A server with what comes from its network and the words to be drawn is where a session stands.
pub record StandsFor (session : State) (server : Server) (network : Option (List Incoming))
    (random : Stream) : Type 0 where
  pub store : StoreStandsFor session.engine server.store
  pub bound : session.bound ≡ server.bound
  pub coming : network ≡ Some session.arrivals
  pub words : session.words ≡ random

-- ---- parts of it, behind a line

-- A Bind leaves all but whether ports are bound.
abbrev pub IsBound : State → (bound : Bool) → (new : State) → Type 0
IsBound old bound new = new ≡ record old { bound = bound }

-- Behind a Serve the store, what comes and the words are those of a state, and whether ports are bound
-- is as before.
pub record IsTurnsOutcome (bound : Bool) (store : Store) (network : Option (List Incoming))
    (random : Stream) (new : State) : Type 0 where
  pub stands : StoreStandsFor new.engine store
  pub still : new.bound ≡ bound
  pub coming : network ≡ Some new.arrivals
  pub words : new.words ≡ random
