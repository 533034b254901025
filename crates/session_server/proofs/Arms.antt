-- What each kind of line leaves, from what its call leaves.
use Rattle.std.proofs.Common.{◌≡◌, ◌⊎◌, ◌∙◌, inl, inr, ℕ, Bool, List, Option, Some, ap, refl, subst, sym}
use Rattle.std.specs.Prelude.{⊤}
use Rattle.line_bounds.specs.LineRecord.TheVariants as line
use Rattle.check_lines.specs.declared.observing.Observation.{Observation}
use Rattle.line_bounds.specs.CommandRecord.{Command}
use Rattle.line_bounds.specs.Configs.{Config, zone_with}
use Rattle.list_sending.specs.Engine.{Engine, QueryGives}
use Rattle.geo_latency.specs.declared.tables.Tables.{Tables}
use Rattle.line_server.specs.Leaving.{Replies, StoreLeaves, taken_of}
use Rattle.line_server.specs.Replying.{Answered, Commanded, Compacts, Observed, StatusTold}
use Rattle.line_server.specs.Standing.{IsBound, Server, StandsFor}
use Rattle.line_server.specs.Stores.{StandsFor as StoreStandsFor, State as Store}
use Rattle.line_server.specs.declared.answers.Taken.{Taken}
use Rattle.line_server.specs.declared.answers.Taken.TheVariants as taken
use Rattle.query_lines.specs.declared.queries.QueryLine.{QueryLine}
use Rattle.r53_io.specs.Network.{Incoming}
use Rattle.rand_core.specs.Stream.{Stream}
use Rattle.list_sending.specs.Replies.{list_text_of}
use Rattle.list_sending.specs.Serving.{Datagram}
use Rattle.list_sending.specs.Steps.{LineSteps, State, Surroundings, replied}
use Rattle.session_server.proofs.Lines.{by_output, of_replies, of_store, stepped}
use Rattle.session_server.specs.Taking.{LineLeaves}
use Rattle.whole_writing.specs.Output.{OutputOf}
use Rattle.whole_writing.specs.declared.output.Output.{Output}
use Rattle.zone_lines.specs.declared.lists.ListOfSets.{ListOfSets}
use Rattle.zone_model.specs.Hosted.{HostedZone}

-- the same server with another store
abbrev with_store : Server → Store → Server
with_store server store = record {
  store = store;
  tables = server.tables;
  bound = server.bound;
}

module _ (around : Surroundings) (old : State) (server : Server)
    (network : Option (List Incoming)) (random : Stream)
    (stands : StandsFor old server network random) (store : Store) (held : List ℕ)
    (before : List Datagram) (out : Option (List ℕ)) (sent : Option (List Datagram))
    (unsent : sent ≡ Some before) (Part Given : Type 0) (Opens : Config → Type 0) where
  rest : (after : Engine) → StoreStandsFor after store
      → StandsFor (record old { engine = after }) (with_store server store) network random
  rest after here = record {
    store = here;
    bound = stands.bound;
    coming = stands.coming;
    words = stands.words;
  }

  pub command : (given : Command) (May : Type 0) (answer : Taken)
      → (answer ≡ taken.DiskFault → Given → (after : Engine) × (reply : List ℕ)
      × Commanded given old.engine after reply × Opens after.config)
      → StoreLeaves May answer (Commanded given) old.engine (λ after. StoreStandsFor after store)
      held out
      → LineLeaves answer (LineSteps around (line.Control given) old) Part Given Opens old
      (λ new. StandsFor new (record { store = store; tables = server.tables; bound = server.bound })
      network random) held before out sent
  command given May answer torn leaves =
      of_store (LineSteps around (line.Control given) old) Part Given Opens old
      (with_store server store) network random held before out sent unsent May (Commanded given)
      (λ after reply c. (c.0, after, c.1, ap (λ (r : List ℕ). replied old after r) c.2)) rest
      answer torn leaves

  pub compaction : (pieces : ℕ) (May : Type 0) (answer : Taken)
      → (answer ≡ taken.DiskFault → Given → (after : Engine) × (reply : List ℕ)
      × Compacts pieces old.engine after reply × Opens after.config)
      → StoreLeaves May answer (Compacts pieces) old.engine (λ after. StoreStandsFor after store)
      held out
      → LineLeaves answer (LineSteps around (line.Compact pieces) old) Part Given Opens old
      (λ new. StandsFor new (record { store = store; tables = server.tables; bound = server.bound })
      network random) held before out sent
  compaction pieces May answer torn leaves =
      of_store (LineSteps around (line.Compact pieces) old) Part Given Opens old
      (with_store server store) network random held before out sent unsent May (Compacts pieces)
      (λ after reply c. (c.0, after, c.1, ap (λ (r : List ℕ). replied old after r) c.2)) rest
      answer torn leaves

  pub status : (id : ℕ) (answer : Taken)
      → Replies answer (StatusTold id) old.engine (λ after. StoreStandsFor after store) held out
      → LineLeaves answer (LineSteps around (line.Status id) old) Part Given Opens old
      (λ new. StandsFor new (record { store = store; tables = server.tables; bound = server.bound })
      network random) held before out sent
  status id answer leaves =
      of_replies (LineSteps around (line.Status id) old) Part Given Opens old
      (with_store server store) network random held before out sent unsent ⊤ (StatusTold id)
      (λ after reply c. ap (λ (e : Engine). replied old e reply) c.0
      ∙ ap (λ (r : List ℕ). replied old old.engine r) c.1) rest answer (inr leaves)

  pub report : (seen : Observation) (answer : Taken)
      → Replies answer (Observed seen) old.engine (λ after. StoreStandsFor after store) held out
      → LineLeaves answer (LineSteps around (line.Observe seen) old) Part Given Opens old
      (λ new. StandsFor new (record { store = store; tables = server.tables; bound = server.bound })
      network random) held before out sent
  report seen answer leaves =
      of_replies (LineSteps around (line.Observe seen) old) Part Given Opens old
      (with_store server store) network random held before out sent unsent ⊤ (Observed seen)
      (λ after reply c. (c.0, after, c.1, ap (λ (r : List ℕ). replied old after r) c.2)) rest
      answer (inr leaves)

  pub query : (asked : QueryLine) (answer : Taken) → around.tables ≡ server.tables
      → Replies answer (Answered server.tables asked) old.engine
      (λ after. StoreStandsFor after store) held out
      → LineLeaves answer (LineSteps around (line.Query asked) old) Part Given Opens old
      (λ new. StandsFor new (record { store = store; tables = server.tables; bound = server.bound })
      network random) held before out sent
  query asked answer same leaves =
      of_replies (LineSteps around (line.Query asked) old) Part Given Opens old
      (with_store server store) network random held before out sent unsent ⊤
      (Answered server.tables asked)
      (λ after reply c. (
        c.0,
        subst (λ (t : Tables). QueryGives old.engine t
            (record { peer = asked.address; words = asked.words }) asked.packet c.0) (sym same)
            c.1,
        ap (λ (e : Engine). replied old e reply) c.2
            ∙ ap (λ (r : List ℕ). replied old old.engine r) c.3,
      )) rest answer (inr leaves)

  pub list : (asked : ListOfSets) (zones : List HostedZone) → zones ≡ old.engine.config.zones
      → StoreStandsFor old.engine store → (o : Output) (answer : Taken) → taken_of o ≡ answer
      → OutputOf held out o (list_text_of asked (zone_with zones asked.zone))
      → LineLeaves answer (LineSteps around (line.List asked) old) Part Given Opens old
      (λ new. StandsFor new (record { store = store; tables = server.tables; bound = server.bound })
      network random) held before out sent
  list asked zones is here o answer so was =
      by_output (LineSteps around (line.List asked) old) Part Given Opens old
      (with_store server store) network random held before out sent unsent o answer so
      (stepped (LineSteps around (line.List asked) old) Part Given Opens old
      (with_store server store) network random held before out sent unsent o old.engine
      (list_text_of asked (zone_with old.engine.config.zones asked.zone)) refl
      (rest old.engine here)
      (subst (λ (z : List HostedZone). OutputOf held out o
      (list_text_of asked (zone_with z asked.zone))) is was))

-- ---- ports

-- behind a Bind
pub bound_now : (old : State) (server : Server) (network : Option (List Incoming))
    (random : Stream) → StandsFor old server network random → (bound : Bool)
    (coming : Option (List Incoming)) → coming ≡ network → (new : State) → IsBound old bound new
    → StandsFor new (record { store = server.store; tables = server.tables; bound = bound }) coming
    random
bound_now old server network random stands bound coming same new is =
    subst (λ (s : State). StandsFor s
    (record { store = server.store; tables = server.tables; bound = bound }) coming random) (sym is)
    (record {
      store = stands.store;
      bound = refl;
      coming = same ∙ stands.coming;
      words = stands.words;
    })
