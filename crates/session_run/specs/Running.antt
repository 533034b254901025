-- What a session leaves, from its tables and its files on.
use Rattle.std.specs.Prelude.{◌≡◌, ◌⊎◌, ℕ, List, [], drop, false, Option, None, Some, Ok, Err, ⊤}
use Rattle.config_model.specs.Configs.{Config}
use Rattle.geo_latency.specs.declared.tables.Tables.{Tables}
use Rattle.line_splitting.specs.Lines.{but_last, events_of, input_limit, input_lines, pieces}
use Rattle.line_splitting.specs.Lines.{is_too_long}
use Rattle.octets.specs.Counts.{Rose}
use Rattle.r53_io.specs.Network.{Incoming}
use Rattle.rand_core.specs.Stream.{Stream}
use Rattle.session_loop.specs.Ending.{Ends, FilesKept, HasCause, Input}
use Rattle.session_model.specs.Serving.{Datagram}
use Rattle.session_model.specs.Steps.{State, Surroundings}
use Rattle.session_run.specs.declared.ran.Ran.{Ran}
use Rattle.session_run.specs.declared.ran.Ran.TheVariants as ran
use Rattle.store_model.specs.Opening.{IsNoStore, IsShape, OpensConfig}
use Rattle.table_lines.specs.Input.{tables_of}
use Rattle.table_lines.specs.declared.reading.TablesFault.{TablesFault}
use Rattle.table_lines.specs.declared.reading.TablesFault.TheVariants as fault
use Rattle.zone_journal.specs.declared.answers.OpenFault.{OpenFault}
use Rattle.zone_journal.specs.declared.answers.OpenFault.TheVariants as opening

-- ---- what a session is over

-- The octets of its input and of its tables, the two files, what its output held before, the ports that
-- the network gives for two that are asked for, the arrivals to come, the datagrams that were sent
-- before, and the random words to be drawn.
pub record Given : Type 0 where
  pub input : List ℕ
  pub rows : List ℕ
  pub x : List ℕ
  pub y : List ℕ
  pub held : List ℕ
  pub ports : ℕ → ℕ → ℕ × ℕ
  pub arrivals : List Incoming
  pub before : List Datagram
  pub words : Stream

-- All that is asked tells what it has.
pub record IsTold (given : Given) (left table_left a_reads b_reads out : Option (List ℕ))
    (gives : Option (ℕ → ℕ → ℕ × ℕ)) (coming : Option (List Incoming))
    (sent : Option (List Datagram)) (stream : Stream) : Type 0 where
  pub input_is : left ≡ Some given.input
  pub rows_are : table_left ≡ Some given.rows
  pub x_is : a_reads ≡ Some given.x
  pub y_is : b_reads ≡ Some given.y
  pub held_is : out ≡ Some given.held
  pub ports_are : gives ≡ Some given.ports
  pub arrivals_are : coming ≡ Some given.arrivals
  pub before_is : sent ≡ Some given.before
  pub words_are : stream ≡ given.words

-- A session begins with what the two files open to, no reports, no compaction and no ports, and with
-- all arrivals and words to come.
pub record IsBeginning (given : Given) (start : State) : Type 0 where
  pub config : OpensConfig given.x given.y start.engine.config
  pub shape : IsShape given.x given.y start.engine.journal.side start.engine.journal.generation
      start.engine.journal.length
  pub plan : start.engine.journal.plan ≡ None
  pub reports : start.engine.reports ≡ []
  pub bound : start.bound ≡ false
  pub coming : start.arrivals ≡ given.arrivals
  pub random : start.words ≡ given.words

abbrev pub surroundings : Given → Tables → Surroundings
surroundings given tables = record { tables = tables; given = given.ports }

-- The whole of an input. Where it reaches the limit its lines are those whose 0x0A is within it, and no
-- more is read.
abbrev pub whole_input : (octets : List ℕ) → Input
whole_input octets = record {
  octets = octets;
  lines = input_lines octets;
  is_long = is_too_long octets;
  beyond = drop input_limit octets;
  ending_in = λ first. events_of (but_last (pieces first));
}

-- ---- why there are no lines

-- the tables aren't read
abbrev pub unread : TablesFault → Ran
unread (fault.Bad number) = ran.BadTables number
unread fault.ReadFault = ran.TablesFault
unread fault.TooLong = ran.TablesTooLong
unread fault.OutOfMemory = ran.OutOfMemory

-- the store isn't opened
abbrev pub unopened : OpenFault → Ran
unopened (opening.NotAStore side place) = ran.NotAStore side place
unopened opening.DiskFault = ran.OpeningFault
unopened opening.OutOfMemory = ran.OutOfMemory

-- ---- what it leaves

-- Nothing was written or sent.
abbrev pub Still : Given → (out : Option (List ℕ)) → (sent : Option (List Datagram)) → Type 0
Still given out sent = (out ≡ Some given.held) × (sent ≡ Some given.before)

-- A session over these tables, by its answer.
abbrev pub SessionLeaves : {D : Type 0} → Ran → (images : D → List ℕ → Type 0) → (a b : D) → Given
    → Tables → (left : Option (List ℕ)) → (network : Option (List Incoming)) → (random : Stream)
    → (out : Option (List ℕ)) → (sent : Option (List Datagram)) → Type 0
SessionLeaves (ran.BadTables number) images a b given tables left network random out sent = ⊥
SessionLeaves ran.TablesFault images a b given tables left network random out sent = ⊥
SessionLeaves ran.TablesTooLong images a b given tables left network random out sent = ⊥
SessionLeaves (ran.NotAStore side place) images a b given tables left network random out sent =
    IsNoStore given.x given.y side place × Still given out sent
SessionLeaves ran.OpeningFault images a b given tables left network random out sent =
    Still given out sent
SessionLeaves ran.OutOfMemory images a b given tables left network random out sent =
    Still given out sent
SessionLeaves (ran.Ended how) images a b given tables left network random out sent =
    (start : State) × IsBeginning given start
    × Ends how images a b (surroundings given tables) (whole_input given.input) start given.held
    given.before left network random out sent

-- The tables are read first. Memory may be wanted for them, too.
abbrev pub RunLeaves : {D : Type 0} → Ran → (images : D → List ℕ → Type 0) → (a b : D) → Given
    → (left : Option (List ℕ)) → (network : Option (List Incoming)) → (random : Stream)
    → (out : Option (List ℕ)) → (sent : Option (List Datagram)) → Type 0
RunLeaves (ran.BadTables number) images a b given left network random out sent =
    (tables_of given.rows ≡ Err (fault.Bad number)) × Still given out sent
RunLeaves ran.TablesFault images a b given left network random out sent = Still given out sent
RunLeaves ran.TablesTooLong images a b given left network random out sent =
    (tables_of given.rows ≡ Err fault.TooLong) × Still given out sent
RunLeaves (ran.NotAStore side place) images a b given left network random out sent =
    (tables : Tables) × (tables_of given.rows ≡ Ok tables)
    × SessionLeaves (ran.NotAStore side place) images a b given tables left network random out sent
RunLeaves ran.OpeningFault images a b given left network random out sent =
    (tables : Tables) × (tables_of given.rows ≡ Ok tables)
    × SessionLeaves ran.OpeningFault images a b given tables left network random out sent
RunLeaves ran.OutOfMemory images a b given left network random out sent = Still given out sent
RunLeaves (ran.Ended how) images a b given left network random out sent =
    (tables : Tables) × (tables_of given.rows ≡ Ok tables)
    × SessionLeaves (ran.Ended how) images a b given tables left network random out sent

-- What the tables say of how a session ended, where they tell what they have.
abbrev pub TablesSay : Ran → (rows : List ℕ) → Type 0
TablesSay (ran.BadTables number) rows = tables_of rows ≡ Err (fault.Bad number)
TablesSay ran.TablesFault rows = ⊤
TablesSay ran.TablesTooLong rows = tables_of rows ≡ Err fault.TooLong
TablesSay (ran.NotAStore side place) rows = (tables : Tables) × (tables_of rows ≡ Ok tables)
TablesSay ran.OpeningFault rows = (tables : Tables) × (tables_of rows ≡ Ok tables)
TablesSay ran.OutOfMemory rows = ⊤
TablesSay (ran.Ended how) rows = (tables : Tables) × (tables_of rows ≡ Ok tables)

-- What the two files say of it.
abbrev pub FilesSay : Ran → (x y : List ℕ) → Type 0
FilesSay (ran.BadTables number) x y = ⊤
FilesSay ran.TablesFault x y = ⊤
FilesSay ran.TablesTooLong x y = ⊤
FilesSay (ran.NotAStore side place) x y = IsNoStore x y side place
FilesSay ran.OpeningFault x y = ⊤
FilesSay ran.OutOfMemory x y = ⊤
FilesSay (ran.Ended how) x y = (config : Config) × OpensConfig x y config

-- What the files open to where lines ended, whatever else tells what it has: what commands that break no
-- rule made of the configuration to which the two files opened.
abbrev pub SessionKeeps : {D : Type 0} → Ran → (images : D → List ℕ → Type 0) → (a b : D)
    → (x y : List ℕ) → Type 0
SessionKeeps (ran.BadTables number) images a b x y = ⊤
SessionKeeps ran.TablesFault images a b x y = ⊤
SessionKeeps ran.TablesTooLong images a b x y = ⊤
SessionKeeps (ran.NotAStore side place) images a b x y = ⊤
SessionKeeps ran.OpeningFault images a b x y = ⊤
SessionKeeps ran.OutOfMemory images a b x y = ⊤
SessionKeeps (ran.Ended how) images a b x y =
    (config : Config) × OpensConfig x y config × FilesKept how images a b config

-- P, where a session ended before its lines
abbrev pub UnlessEnded : Ran → Type 0 → Type 0
UnlessEnded (ran.BadTables number) P = P
UnlessEnded ran.TablesFault P = P
UnlessEnded ran.TablesTooLong P = P
UnlessEnded (ran.NotAStore side place) P = P
UnlessEnded ran.OpeningFault P = P
UnlessEnded ran.OutOfMemory P = P
UnlessEnded (ran.Ended how) P = ⊤

-- P, where the tables end a session
abbrev pub IfUntabled : Ran → Type 0 → Type 0
IfUntabled (ran.BadTables number) P = P
IfUntabled ran.TablesFault P = P
IfUntabled ran.TablesTooLong P = P
IfUntabled (ran.NotAStore side place) P = ⊤
IfUntabled ran.OpeningFault P = ⊤
IfUntabled ran.OutOfMemory P = ⊤
IfUntabled (ran.Ended how) P = ⊤

-- ---- faults

-- Each fault comes only where the count of what failed rose.
abbrev pub HasCauseOf : Ran → (in_old in_new tables_old tables_new a_old a_new b_old b_new link_old
    link_new out_old out_new : ℕ) → Type 0
HasCauseOf (ran.BadTables number) in_old in_new tables_old tables_new a_old a_new b_old b_new
    link_old link_new out_old out_new = ⊤
HasCauseOf ran.TablesFault in_old in_new tables_old tables_new a_old a_new b_old b_new link_old
    link_new out_old out_new =
    Rose tables_old tables_new
HasCauseOf ran.TablesTooLong in_old in_new tables_old tables_new a_old a_new b_old b_new link_old
    link_new out_old out_new = ⊤
HasCauseOf (ran.NotAStore side place) in_old in_new tables_old tables_new a_old a_new b_old b_new
    link_old link_new out_old out_new = ⊤
HasCauseOf ran.OpeningFault in_old in_new tables_old tables_new a_old a_new b_old b_new link_old
    link_new out_old out_new =
    Rose a_old a_new ⊎ Rose b_old b_new
HasCauseOf ran.OutOfMemory in_old in_new tables_old tables_new a_old a_new b_old b_new link_old
    link_new out_old out_new = ⊤
HasCauseOf (ran.Ended how) in_old in_new tables_old tables_new a_old a_new b_old b_new link_old
    link_new out_old out_new =
    HasCause how in_old in_new a_old a_new b_old b_new link_old link_new out_old out_new
