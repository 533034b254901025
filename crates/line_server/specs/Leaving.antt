-- What a line leaves, by the answer of the call that takes it.
use Rattle.std.specs.Prelude.{◌≡◌, ◌≢◌, ◌⊎◌, ◌<◌, ℕ, List, ◌++◌, Option, Some, ⊤}
use Rattle.reply_sending.specs.Configs.{Config}
use Rattle.serve_turns.specs.Engine.{Engine, Journal}
use Rattle.line_server.specs.declared.answers.Taken.{Taken}
use Rattle.line_server.specs.declared.answers.Taken.TheVariants as taken
use Rattle.octets.specs.Counts.{Rose}
use Rattle.r53_io.specs.Network.{Incoming}
use Rattle.serve_turns.specs.Replies.{memory_text}
use Rattle.serve_turns.specs.ServingOfSessionModel.{Datagram, TurnsOutcome, TakesTurns}
use Rattle.serve_turns.specs.Turning.{IsInHand}
use Rattle.serve_turns.specs.Steps.{State, Step, Surroundings, at_first_turn}
use Rattle.serve_turns.specs.Leaving.{OpensEither}
use Rattle.whole_writing.specs.Output.{OutputOf}
use Rattle.whole_writing.specs.declared.output.Output.{Output}
use Rattle.whole_writing.specs.declared.output.Output.TheVariants as output

-- how a reply that was written, or wasn't, is told
abbrev pub taken_of : Output → Taken
taken_of output.Whole = taken.Replied
taken_of output.Failed = taken.WriteFault

-- What the sink holds where a reply was written: by the answer the whole of it, or a part that isn't
-- the whole. Other answers come before anything is written.
abbrev pub Written : Taken → (held : List ℕ) → (out : Option (List ℕ)) → (reply : List ℕ) → Type 0
Written taken.Replied held out reply = OutputOf held out output.Whole reply
Written taken.WriteFault held out reply = OutputOf held out output.Failed reply
Written taken.DiskFault held out reply = ⊥
Written taken.LinkFault held out reply = ⊥

-- A line makes of a store what Steps says, with that reply. P tells what the store stands for.
abbrev pub Replies : Taken → (Steps : (old after : Engine) → (reply : List ℕ) → Type 0)
    → (engine : Engine) → (P : Engine → Type 0) → (held : List ℕ) → (out : Option (List ℕ)) → Type 0
Replies answer Steps engine P held out =
    (after : Engine) × (reply : List ℕ) × Steps engine after reply × P after
    × Written answer held out reply

-- The same, or memory was wanted for it, which is replied, and the store is the one before. May says
-- when that comes.
abbrev pub RepliesOr : (May : Type 0) → Taken
    → (Steps : (old after : Engine) → (reply : List ℕ) → Type 0)
    → (engine : Engine) → (P : Engine → Type 0) → (held : List ℕ) → (out : Option (List ℕ)) → Type 0
RepliesOr May answer Steps engine P held out =
    (May × Written answer held out memory_text × P engine)
    ⊎ Replies answer Steps engine P held out

-- The same where a disk may fail: nothing is written then, and the store stands for what it stood
-- for, but for the journal.
abbrev pub StoreLeaves : (May : Type 0) → Taken
    → (Steps : (old after : Engine) → (reply : List ℕ) → Type 0)
    → (engine : Engine) → (P : Engine → Type 0) → (held : List ℕ) → (out : Option (List ℕ)) → Type 0
StoreLeaves May taken.Replied Steps engine P held out =
    RepliesOr May taken.Replied Steps engine P held out
StoreLeaves May taken.WriteFault Steps engine P held out =
    RepliesOr May taken.WriteFault Steps engine P held out
StoreLeaves May taken.DiskFault Steps engine P held out =
    (out ≡ Some held) × ((journal : Journal) × P (record engine { journal = journal }))
StoreLeaves May taken.LinkFault Steps engine P held out = ⊥

-- A step of a line was made, or the store is the one before, but for the journal where a disk failed:
-- also where the sink tells nothing.
abbrev pub StepOrNone : (Steps : (old after : Engine) → (reply : List ℕ) → Type 0)
    → (old after : Engine) → Type 0
StepOrNone Steps old after =
    ((journal : Journal) × (after ≡ record old { journal = journal }))
    ⊎ ((reply : List ℕ) × Steps old after reply)

-- ---- files

-- P, but where a disk failed
abbrev pub UnlessHalted : Taken → Type 0 → Type 0
UnlessHalted answer P = answer ≢ taken.DiskFault → P

-- Each pair of images opens to the configuration before, or to the one after.
abbrev pub ImagesOpen : {D : Type 0} → (images : D → List ℕ → Type 0) → (a b : D)
    → (before after : Config) → Type 0
ImagesOpen images a b before after =
    (x y : List ℕ) → images a x → images b y → OpensEither before after x y

-- Where a disk failed there is a step of the line, and each pair of images opens to the configuration
-- before it or to the one after.
abbrev pub Halted : {D : Type 0} → (images : D → List ℕ → Type 0) → (a b : D)
    → (Steps : (old after : Engine) → (reply : List ℕ) → Type 0) → (engine : Engine) → Type 0
Halted images a b Steps engine =
    (after : Engine) × (reply : List ℕ) × Steps engine after reply
    × ImagesOpen images a b engine.config after.config

-- ---- a line, as a whole

-- A step of a session came of it, whose reply was written as the output says. P tells where the
-- session stands.
abbrev pub CameTo : Output → (Steps : Step → Type 0) → (P : State → Type 0)
    → (held : List ℕ) → (before : List Datagram) → (out : Option (List ℕ))
    → (sent : Option (List Datagram)) → Type 0
CameTo o Steps P held before out sent =
    (step : Step) × Steps step × P step.new
    × OutputOf held out o step.reply × (sent ≡ Some (before ++ step.sent))

-- What a line on the network left, by the answer. Where the network failed no part of the reply was
-- written; Part tells what was sent before.
abbrev pub StepLeaves : Taken → (Steps : Step → Type 0) → (Part : Option (List Datagram) → Type 0)
    → (P : State → Type 0) → (held : List ℕ) → (before : List Datagram)
    → (out : Option (List ℕ)) → (sent : Option (List Datagram)) → Type 0
StepLeaves taken.Replied Steps Part P held before out sent =
    CameTo output.Whole Steps P held before out sent
StepLeaves taken.WriteFault Steps Part P held before out sent =
    CameTo output.Failed Steps P held before out sent
StepLeaves taken.DiskFault Steps Part P held before out sent = ⊥
StepLeaves taken.LinkFault Steps Part P held before out sent = (out ≡ Some held) × Part sent

-- What was sent by a Serve line where the network failed: the datagrams of the turns that ended; and
-- what is still to come.
abbrev pub TurnsInPart : Surroundings → (n : ℕ) → (old : State) → (before : List Datagram)
    → (network : Option (List Incoming)) → (sent : Option (List Datagram)) → Type 0
TurnsInPart around n old before network sent =
    (k : ℕ) × (left : List Incoming) × (served : TurnsOutcome) × (k < n)
    × TakesTurns around.tables k old.arrivals (at_first_turn old) left served
    × (sent ≡ Some (before ++ served.sent)) × IsInHand left network

-- ---- faults

-- Each fault comes only where the count of what failed rose.
abbrev pub HasCause : Taken → (a_old a_new b_old b_new link_old link_new out_old out_new : ℕ)
    → Type 0
HasCause taken.Replied a_old a_new b_old b_new link_old link_new out_old out_new = ⊤
HasCause taken.WriteFault a_old a_new b_old b_new link_old link_new out_old out_new =
    Rose out_old out_new
HasCause taken.DiskFault a_old a_new b_old b_new link_old link_new out_old out_new =
    Rose a_old a_new ⊎ Rose b_old b_new
HasCause taken.LinkFault a_old a_new b_old b_new link_old link_new out_old out_new =
    Rose link_old link_new
