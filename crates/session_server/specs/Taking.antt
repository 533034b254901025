-- What a line leaves in a session, by the answer of the call that takes it.
use Rattle.std.specs.Prelude.{◌≡◌, ◌≤◌, ◌⊎◌, ℕ, Bool, true, false, List, Option, Some, Ok, ⊤}
use Rattle.line_bounds.specs.LineRecord.{Line}
use Rattle.line_bounds.specs.LineRecord.TheVariants as line
use Rattle.line_bounds.specs.LawsOfCommandBounds.{HasShortLists}
use Rattle.line_bounds.specs.Configs.{Config}
use Rattle.line_bounds.specs.LawsOfConfigModel.{IsBounded}
use Rattle.line_bounds.specs.Laws.{start_of}
use Rattle.line_server.specs.Asking.{CommandAsksDisk, CompactionAsksDisk}
use Rattle.line_server.specs.Leaving.{CameTo, TurnsInPart}
use Rattle.line_server.specs.declared.answers.Taken.{Taken}
use Rattle.line_server.specs.declared.answers.Taken.TheVariants as taken
use Rattle.line_bounds.specs.LawsOfPageLaws.{IsAsked}
use Rattle.r53_io.specs.Network.{Incoming}
use Rattle.list_sending.specs.Asking.{Asks}
use Rattle.list_sending.specs.Engine.{Engine}
use Rattle.list_sending.specs.Replies.{memory_text}
use Rattle.list_sending.specs.Serving.{Datagram}
use Rattle.list_sending.specs.Sessions.{told_alone}
use Rattle.list_sending.specs.Steps.{State, Step, Surroundings}
use Rattle.whole_writing.specs.declared.output.Output.TheVariants as output

-- What a line that was read asks for is within the bounds of lines.
abbrev pub IsWithin : Line → Type 0
IsWithin (line.Control given) = IsBounded given × HasShortLists given
IsWithin (line.List list) = IsAsked (start_of list)
IsWithin (line.Status id) = ⊤
IsWithin (line.Observe seen) = ⊤
IsWithin (line.Query asked) = ⊤
IsWithin (line.Bind ports) = ⊤
IsWithin (line.Serve turns) = ⊤
IsWithin (line.Compact pieces) = 1 ≤ pieces

-- A step that Steps says; or memory was wanted, which is told alone.
abbrev pub OrMemory : (Steps : Step → Type 0) → (old : State) → Step → Type 0
OrMemory Steps old step = (step ≡ told_alone memory_text old) ⊎ Steps step

-- What a line left, by the answer. Steps says what comes of it where no memory is wanted, and P where
-- the session stands behind it. Where a disk failed nothing was written and nothing sent; where the
-- files were those of the store, which Given says, Opens tells what they open to, from the
-- configuration that the line would have made. Where the network failed nothing was written; Part
-- tells what was sent before.
abbrev pub LineLeaves : Taken → (Steps : Step → Type 0) → (Part : Type 0) → (Given : Type 0)
    → (Opens : (after : Config) → Type 0) → (old : State) → (P : State → Type 0)
    → (held : List ℕ) → (before : List Datagram) → (out : Option (List ℕ))
    → (sent : Option (List Datagram)) → Type 0
LineLeaves taken.Replied Steps Part Given Opens old P held before out sent =
    CameTo output.Whole (OrMemory Steps old) P held before out sent
LineLeaves taken.WriteFault Steps Part Given Opens old P held before out sent =
    CameTo output.Failed (OrMemory Steps old) P held before out sent
LineLeaves taken.DiskFault Steps Part Given Opens old P held before out sent =
    (out ≡ Some held) × (sent ≡ Some before)
    × (Given → (step : Step) × Steps step × Opens step.new.engine.config)
LineLeaves taken.LinkFault Steps Part Given Opens old P held before out sent =
    (out ≡ Some held) × Part

-- Which lines ask a disk: a command that is accepted and fits, and a compaction, but behind the last
-- generation.
abbrev pub AsksDisk : Line → Engine → Type 0
AsksDisk (line.Control given) engine = CommandAsksDisk given engine
AsksDisk (line.List list) engine = ⊥
AsksDisk (line.Status id) engine = ⊥
AsksDisk (line.Observe seen) engine = ⊥
AsksDisk (line.Query asked) engine = ⊥
AsksDisk (line.Bind ports) engine = ⊥
AsksDisk (line.Serve turns) engine = ⊥
AsksDisk (line.Compact pieces) engine = CompactionAsksDisk engine

-- the same of a line of octets
abbrev pub OctetsAskDisk : (octets : List ℕ) → Engine → Type 0
OctetsAskDisk octets engine = (asked : Line) × Asks octets (Ok asked) × AsksDisk asked engine

-- Which lines ask the network: a Bind where no ports are bound, and a Serve where they are.
abbrev pub AsksLink : Line → (bound : Bool) → Type 0
AsksLink (line.Control given) bound = ⊥
AsksLink (line.List list) bound = ⊥
AsksLink (line.Status id) bound = ⊥
AsksLink (line.Observe seen) bound = ⊥
AsksLink (line.Query asked) bound = ⊥
AsksLink (line.Bind ports) bound = bound ≡ false
AsksLink (line.Serve turns) bound = bound ≡ true
AsksLink (line.Compact pieces) bound = ⊥

-- the same of a line of octets
abbrev pub OctetsAskLink : (octets : List ℕ) → (bound : Bool) → Type 0
OctetsAskLink octets bound = (asked : Line) × Asks octets (Ok asked) × AsksLink asked bound

-- What was sent of a line on the network and came of it, where that failed: of a Bind nothing, and of a
-- Serve what the turns sent and took that ended. A Bind asks the network where no ports are bound, and
-- a Serve where they are. No other line asks it.
abbrev pub PartOf : Surroundings → Line → (old : State) → (before : List Datagram)
    → (network : Option (List Incoming)) → (sent : Option (List Datagram)) → Type 0
PartOf around (line.Control given) old before network sent = ⊥
PartOf around (line.List list) old before network sent = ⊥
PartOf around (line.Status id) old before network sent = ⊥
PartOf around (line.Observe seen) old before network sent = ⊥
PartOf around (line.Query asked) old before network sent = ⊥
PartOf around (line.Bind ports) old before network sent =
    (old.bound ≡ false) × (sent ≡ Some before) × (network ≡ Some old.arrivals)
PartOf around (line.Serve turns) old before network sent =
    (old.bound ≡ true) × TurnsInPart around turns old before network sent
PartOf around (line.Compact pieces) old before network sent = ⊥

-- the same of a line of octets
abbrev pub PartOfOctets : Surroundings → (octets : List ℕ) → (old : State)
    → (before : List Datagram) → (network : Option (List Incoming))
    → (sent : Option (List Datagram)) → Type 0
PartOfOctets around octets old before network sent =
    (asked : Line) × Asks octets (Ok asked) × PartOf around asked old before network sent
