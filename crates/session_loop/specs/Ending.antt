-- How lines end, and what they leave then: what was written and sent, and what the files open to.
--
-- The lines that were taken are always the first of the input's, one after another, each whole; the
-- commands among them were accepted or refused in that order. So where the files open to where a
-- session over them stands, they hold each command that was acknowledged, and besides at most the one
-- in hand.
use Rattle.std.specs.Prelude.{◌≡◌, ◌⊎◌, ℕ, List, [], ◌∷◌, ◌++◌, Bool, true, false, Option, Some, ⊤}
use Rattle.session_server.specs.Configs.{Config}
use Rattle.engine_model.specs.Engine.{Engine}
use Rattle.line_splitting.specs.Lines.{Event, Line, TooLong}
use Rattle.octets.specs.Counts.{Rose}
use Rattle.r53_io.specs.Network.{Incoming}
use Rattle.rand_core.specs.Stream.{Stream}
use Rattle.session_loop.specs.declared.ended.Ended.{Ended}
use Rattle.session_loop.specs.declared.ended.Ended.TheVariants as ended
use Rattle.session_server.specs.Replies.{too_long_text}
use Rattle.session_server.specs.Serving.{Datagram}
use Rattle.session_server.specs.Sessions.{ComesTo, LineComes, Session, told_alone}
use Rattle.session_server.specs.Steps.{OctetsStep, State, Step, Surroundings}
use Rattle.session_server.specs.Files.{AreFilesOf, AreOpenAlike}
use Rattle.session_server.specs.Keeping.{OpensOneMore}
use Rattle.session_server.specs.Leaving.{ImagesOpen}
use Rattle.session_server.specs.Taking.{OctetsAskDisk, PartOfOctets}
use Rattle.store_model.specs.Applying.{AppliesAll}
use Rattle.store_model.specs.CommandRecord.{Command}
use Rattle.whole_writing.specs.Output.{OutputOf}
use Rattle.whole_writing.specs.declared.output.Output.TheVariants as output

-- An input: its octets, its lines, whether the limit comes before its end, what isn't read of it once
-- all lines were taken, and the lines that end within its first octets.
pub record Input : Type 0 where
  pub octets : List ℕ
  pub lines : List Event
  pub is_long : Bool
  pub beyond : List ℕ
  pub ending_in : (first : List ℕ) → List Event

-- A session over the first of some lines, with the others to come.
pub record First (around : Surroundings) (lines : List Event) (start : State) (more : List Event)
    (session : Session) : Type 0 where
  pub done : List Event
  pub choices : List Bool
  pub parts : lines ≡ done ++ more
  pub comes : ComesTo around done choices start session

-- All replies of a session were written, and its datagrams sent, behind what was before.
pub record AllTold (session : Session) (held : List ℕ) (before : List Datagram)
    (out : Option (List ℕ)) (sent : Option (List Datagram)) : Type 0 where
  pub replies : out ≡ Some (held ++ session.output)
  pub datagrams : sent ≡ Some (before ++ session.sent)

-- what comes of a line that may be too long
abbrev pub EventComesTo : Surroundings → Event → (old : State) → Step → Type 0
EventComesTo around (Line octets) old step =
    (wanted : Bool) × LineComes around octets wanted old step
EventComesTo around TooLong old step = step ≡ told_alone too_long_text old

-- Of the network and of the random words what comes next is what a session has left.
pub record IsLeft (now : State) (network : Option (List Incoming)) (random : Stream) : Type 0 where
  pub coming : network ≡ Some now.arrivals
  pub words : now.words ≡ random

-- ---- by the answer

-- A session over the first lines, all told, of which the files are.
pub record AreReplied {D : Type 0} (images : D → List ℕ → Type 0) (a b : D) (around : Surroundings)
    (lines : List Event) (start : State) (more : List Event) (held : List ℕ)
    (before : List Datagram) (network : Option (List Incoming)) (random : Stream)
    (out : Option (List ℕ)) (sent : Option (List Datagram)) : Type 0 where
  pub session : Session
  pub first : First around lines start more session
  pub told : AllTold session held before out sent
  pub rest : IsLeft session.new network random
  pub files : AreFilesOf images a b session.new.engine

-- The same over the lines that end within what was read of an input, which failed behind that.
pub record IsBroken {D : Type 0} (images : D → List ℕ → Type 0) (a b : D) (around : Surroundings)
    (input : Input) (start : State) (held : List ℕ) (before : List Datagram)
    (left : Option (List ℕ)) (network : Option (List Incoming)) (random : Stream)
    (out : Option (List ℕ)) (sent : Option (List Datagram)) : Type 0 where
  pub seen : List ℕ
  pub unseen : List ℕ
  pub more : List Event
  pub parts : input.octets ≡ seen ++ unseen
  pub has : left ≡ Some unseen
  pub all : AreReplied images a b around input.lines start more held before network random out sent
  pub ending : all.first.done ≡ input.ending_in seen

-- Behind a session over the first lines one more was taken, of whose reply a part was written that
-- isn't the whole; the files are those of where it stands then.
pub record IsPartWritten {D : Type 0} (images : D → List ℕ → Type 0) (a b : D) (around : Surroundings)
    (lines : List Event) (start : State) (held : List ℕ) (before : List Datagram)
    (network : Option (List Incoming)) (random : Stream) (out : Option (List ℕ))
    (sent : Option (List Datagram)) : Type 0 where
  pub session : Session
  pub event : Event
  pub more : List Event
  pub step : Step
  pub first : First around lines start (event ∷ more) session
  pub comes : EventComesTo around event session.new step
  pub reply : OutputOf (held ++ session.output) out output.Failed step.reply
  pub datagrams : sent ≡ Some (before ++ session.sent ++ step.sent)
  pub rest : IsLeft step.new network random
  pub files : AreFilesOf images a b step.new.engine

-- Behind a session over the first lines, all told, a disk failed with the next, which asks one: the
-- files open to where the session stands, or to where it would with that line.
pub record IsHalted {D : Type 0} (images : D → List ℕ → Type 0) (a b : D) (around : Surroundings)
    (lines : List Event) (start : State) (held : List ℕ) (before : List Datagram)
    (network : Option (List Incoming)) (random : Stream) (out : Option (List ℕ))
    (sent : Option (List Datagram)) : Type 0 where
  pub session : Session
  pub octets : List ℕ
  pub more : List Event
  pub step : Step
  pub first : First around lines start (Line octets ∷ more) session
  pub told : AllTold session held before out sent
  pub rest : IsLeft session.new network random
  pub asks : OctetsAskDisk octets session.new.engine
  pub steps : OctetsStep around octets session.new step
  pub files : ImagesOpen images a b session.new.engine.config step.new.engine.config

-- Behind a session over the first lines, all told, the network failed with the next, of which a part
-- may have been sent; the files are those of where the session stands.
pub record IsUnsent {D : Type 0} (images : D → List ℕ → Type 0) (a b : D) (around : Surroundings)
    (lines : List Event) (start : State) (held : List ℕ) (before : List Datagram)
    (network : Option (List Incoming)) (out : Option (List ℕ)) (sent : Option (List Datagram))
    : Type 0 where
  pub session : Session
  pub octets : List ℕ
  pub more : List Event
  pub first : First around lines start (Line octets ∷ more) session
  pub replies : out ≡ Some (held ++ session.output)
  pub part : PartOfOctets around octets session.new (before ++ session.sent) network sent
  pub files : AreFilesOf images a b session.new.engine

-- All lines were taken, and no more of the input than that needs.
abbrev pub IsAll : {D : Type 0} → (images : D → List ℕ → Type 0) → (a b : D) → Surroundings → Input
    → (start : State) → (held : List ℕ) → (before : List Datagram) → (left : Option (List ℕ))
    → (network : Option (List Incoming)) → (random : Stream) → (out : Option (List ℕ))
    → (sent : Option (List Datagram)) → Type 0
IsAll images a b around input start held before left network random out sent =
    (left ≡ Some input.beyond)
    × AreReplied images a b around input.lines start [] held before network random out sent

-- What the lines of an input leave, by how they ended; left tells what the input has left then.
abbrev pub Ends : {D : Type 0} → Ended → (images : D → List ℕ → Type 0) → (a b : D)
    → Surroundings → Input → (start : State) → (held : List ℕ) → (before : List Datagram)
    → (left : Option (List ℕ)) → (network : Option (List Incoming)) → (random : Stream)
    → (out : Option (List ℕ)) → (sent : Option (List Datagram)) → Type 0
Ends ended.Done images a b around input start held before left network random out sent =
    (input.is_long ≡ false)
    × IsAll images a b around input start held before left network random out sent
Ends ended.InputTooLong images a b around input start held before left network random out sent =
    (input.is_long ≡ true)
    × IsAll images a b around input start held before left network random out sent
Ends ended.ReadFault images a b around input start held before left network random out sent =
    IsBroken images a b around input start held before left network random out sent
Ends ended.WriteFault images a b around input start held before left network random out sent =
    IsPartWritten images a b around input.lines start held before network random out sent
Ends ended.DiskFault images a b around input start held before left network random out sent =
    IsHalted images a b around input.lines start held before network random out sent
Ends ended.LinkFault images a b around input start held before left network random out sent =
    IsUnsent images a b around input.lines start held before network out sent

-- ---- the files alone

-- Commands that break no rule were made, one after another.
abbrev pub AppliesSome : (before after : Config) → Type 0
AppliesSome before after = (commands : List Command) × AppliesAll before commands after

-- Commands that break no rule lead from a configuration to the one to which each pair of images opens,
-- and all are of one shape.
abbrev pub FilesOpenBehind : {D : Type 0} → (images : D → List ℕ → Type 0) → (a b : D) → Config → Type 0
FilesOpenBehind images a b config =
    (now : Config) × AppliesSome config now × AreOpenAlike images a b now

-- What the files open to by how the lines ended, whatever else tells what it has: what commands that
-- break no rule made of the configuration; where a disk failed, that or the same with one such command
-- more. Which commands, and that they fit the journal, is told where all tells what it has.
abbrev pub FilesKept : {D : Type 0} → Ended → (images : D → List ℕ → Type 0) → (a b : D) → Config → Type 0
FilesKept ended.Done images a b config = FilesOpenBehind images a b config
FilesKept ended.ReadFault images a b config = FilesOpenBehind images a b config
FilesKept ended.InputTooLong images a b config = FilesOpenBehind images a b config
FilesKept ended.WriteFault images a b config = FilesOpenBehind images a b config
FilesKept ended.DiskFault images a b config =
    (before : Config) × AppliesSome config before × OpensOneMore images a b before
FilesKept ended.LinkFault images a b config = FilesOpenBehind images a b config

-- ---- faults

-- Each fault comes only where the count of what failed rose.
abbrev pub HasCause : Ended → (in_old in_new a_old a_new b_old b_new link_old link_new out_old
    out_new : ℕ) → Type 0
HasCause ended.Done in_old in_new a_old a_new b_old b_new link_old link_new out_old out_new = ⊤
HasCause ended.InputTooLong in_old in_new a_old a_new b_old b_new link_old link_new out_old out_new =
    ⊤
HasCause ended.ReadFault in_old in_new a_old a_new b_old b_new link_old link_new out_old out_new =
    Rose in_old in_new
HasCause ended.WriteFault in_old in_new a_old a_new b_old b_new link_old link_new out_old out_new =
    Rose out_old out_new
HasCause ended.DiskFault in_old in_new a_old a_new b_old b_new link_old link_new out_old out_new =
    Rose a_old a_new ⊎ Rose b_old b_new
HasCause ended.LinkFault in_old in_new a_old a_new b_old b_new link_old link_new out_old out_new =
    Rose link_old link_new
