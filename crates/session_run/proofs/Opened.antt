-- A session begins where its store was opened.
use Rattle.std.proofs.Common.{◌≡◌, ◌∙◌, ◌≤◌, inl, inr, arith, ℕ, List, Bool, Option, None, Some, Result, Ok, Err, ◌⊎◌, false, ap, refl, subst, sym}
use Rattle.std.specs.Prelude.{⊤}
use Rattle.line_splitting.specs.Lines.{Event, but_last, events_of, input_lines, is_too_long, pieces}
use Rattle.line_splitting.specs.Reading.{FreshReader, Reader, events, fresh, is_over_limit, whole}
use Rattle.config_model.specs.Configs.{Config}
use Rattle.session_loop.specs.Ending.{Ends, HasCause, Input}
use Rattle.session_loop.specs.Turning.{input_of}
use Rattle.session_loop.specs.declared.ended.Ended.{Ended}
use Rattle.session_loop.specs.declared.ended.Ended.TheVariants as ended
use Rattle.session_loop.specs.Holding.{Holds}
use Rattle.session_loop.specs.Journaled.{State as Kept}
use Rattle.session_loop.specs.Standing.{Server, StandsFor}
use Rattle.session_loop.specs.Stores.{StandsFor as StoreStandsFor, opened}
use Rattle.r53_io.specs.Network.{Incoming}
use Rattle.rand_core.specs.Stream.{Stream}
use Rattle.session_model.specs.Steps.{State, Surroundings}
use Rattle.geo_latency.specs.declared.tables.Tables.{Tables}
use Rattle.session_model.specs.Serving.{Datagram}
use Rattle.octets.specs.Counts.{Rose}
use Rattle.session_run.specs.Running.{Given, HasCauseOf, IsBeginning, RunLeaves, SessionLeaves, Still}
use Rattle.session_run.specs.Running.{FilesSay, IfUntabled, SessionKeeps, TablesSay, UnlessEnded, unopened, unread, whole_input}
use Rattle.session_run.specs.declared.ran.Ran.{Ran}
use Rattle.session_run.specs.declared.ran.Ran.TheVariants as ran
use Rattle.table_lines.specs.Input.{Gives, tables_of}
use Rattle.table_lines.specs.declared.reading.TablesFault.{TablesFault}
use Rattle.table_lines.specs.declared.reading.TablesFault.TheVariants as tables
use Rattle.store_model.specs.Laws.{StandingPlace}
use Rattle.store_model.specs.Opening.{IsNoStore, OpensAs, OpensConfig}
use Rattle.zone_journal.specs.Pairs.{BothRead}
use Rattle.zone_journal.specs.declared.answers.OpenFault.{OpenFault}
use Rattle.zone_journal.specs.declared.answers.OpenFault.TheVariants as fault
use Rattle.zone_journal.specs.declared.answers.Side.{Side}
use Rattle.zone_journal.specs.Standing.{StandsOn}

some_same : {X : Type 0} {x y : X} → Some x ≡ Some y → x ≡ y
some_same e = cc

none_planned : (kept : Kept) → kept.journal.plan ≡ None → (opened kept).journal.plan ≡ None
none_planned kept idle = cc

abbrev pub beginning : Given → Kept → State
beginning given kept = record {
  engine = opened kept;
  bound = false;
  arrivals = given.arrivals;
  words = given.words;
}

-- what files open to in which a store is held
pub opens_as : {D : Type 0} (reading : D → Option (List ℕ)) (kept : Kept) (a b : D) (x y : List ℕ)
    → (leaves : BothRead reading a b (Holds kept)) → reading a ≡ Some x → reading b ≡ Some y
    → OpensAs x y kept.journal.generation leaves.has.snapshot leaves.has.entries
    (opened kept).config
opens_as reading kept a b x y leaves x_is y_is =
    subst (λ (v : List ℕ). OpensAs x v kept.journal.generation leaves.has.snapshot
    leaves.has.entries (opened kept).config) (some_same (sym leaves.b_reads ∙ y_is))
    (subst (λ (u : List ℕ). OpensAs u leaves.y kept.journal.generation leaves.has.snapshot
    leaves.has.entries (opened kept).config) (some_same (sym leaves.a_reads ∙ x_is))
    leaves.has.opens)

pub opens_config : {D : Type 0} (reading : D → Option (List ℕ)) (kept : Kept) (a b : D)
    (x y : List ℕ) → BothRead reading a b (Holds kept) → reading a ≡ Some x → reading b ≡ Some y
    → OpensConfig x y (opened kept).config
opens_config reading kept a b x y leaves x_is y_is = record {
  generation = kept.journal.generation;
  snapshot = leaves.has.snapshot;
  entries = leaves.has.entries;
  opens = opens_as reading kept a b x y leaves x_is y_is;
}

pub is_beginning : {D : Type 0} (reading : D → Option (List ℕ)) (images : D → List ℕ → Type 0)
    → StandingPlace reading images → (given : Given) (kept : Kept) (a b : D)
    → StandsOn reading images kept.journal a b → BothRead reading a b (Holds kept)
    → reading a ≡ Some given.x → reading b ≡ Some given.y → kept.journal.plan ≡ None
    → IsBeginning given (beginning given kept)
is_beginning reading images law given kept a b stands leaves x_is y_is idle =
    let opens = opens_as reading kept a b given.x given.y leaves x_is y_is in
    record {
      config = opens_config reading kept a b given.x given.y leaves x_is y_is;
      shape = (law kept.journal a b given.x given.y kept.journal.generation leaves.has.snapshot
          leaves.has.entries stands x_is y_is opens.opens).3;
      plan = none_planned kept idle;
      reports = refl;
      bound = refl;
      coming = refl;
      random = refl;
    }

pub stands_for : (given : Given) (kept : Kept) (server : Server)
    (network : Option (List Incoming)) (random : Stream)
    → StoreStandsFor (opened kept) server.store → server.bound ≡ false
    → network ≡ Some given.arrivals → random ≡ given.words
    → StandsFor (beginning given kept) server network random
stands_for given kept server network random stands unbound coming words = record {
  store = stands;
  bound = sym unbound;
  coming = coming;
  words = sym words;
}

-- an input of which other lines are told to end within its first octets
abbrev with_lines : (octets : List ℕ) → (lines : List Event) → (is_long : Bool)
    → (beyond : List ℕ) → (ending_in : List ℕ → List Event) → Input
with_lines octets lines is_long beyond ending_in = record {
  octets = octets;
  lines = lines;
  is_long = is_long;
  beyond = beyond;
  ending_in = ending_in;
}

-- a reader that has read nothing has the lines of its whole input to come
module _ {D : Type 0} (images : D → List ℕ → Type 0) (a b : D) (around : Surroundings)
    (start : State) (held : List ℕ) (before : List Datagram) (after : Option (List ℕ))
    (network : Option (List Incoming)) (random : Stream) (out : Option (List ℕ))
    (sent : Option (List Datagram)) where
  same_ending : (how : Ended) (octets : List ℕ) (lines : List Event) (is_long : Bool)
      (beyond : List ℕ) (f g : List ℕ → List Event) → ((first : List ℕ) → f first ≡ g first)
      → Ends how images a b around (with_lines octets lines is_long beyond f) start held before after
      network random out sent
      → Ends how images a b around (with_lines octets lines is_long beyond g) start held before after
      network random out sent
  same_ending ended.Done octets lines is_long beyond f g same h = h
  same_ending ended.InputTooLong octets lines is_long beyond f g same h = h
  same_ending ended.ReadFault octets lines is_long beyond f g same h = record {
    seen = h.seen;
    unseen = h.unseen;
    more = h.more;
    parts = h.parts;
    has = h.has;
    all = h.all;
    ending = h.ending ∙ same h.seen;
  }
  same_ending ended.WriteFault octets lines is_long beyond f g same h = h
  same_ending ended.DiskFault octets lines is_long beyond f g same h = h
  same_ending ended.LinkFault octets lines is_long beyond f g same h = h

  pub from_fresh : FreshReader → (how : Ended) (reader : Reader) → reader ≡ fresh
      → (left : List ℕ)
      → Ends how images a b around (input_of reader left) start held before after network random out
      sent
      → Ends how images a b around (whole_input left) start held before after network random out sent
  from_fresh law how reader is left has =
      let its = (whole_input left).beyond in
      same_ending how left (input_lines left) (is_too_long left) its (whole fresh)
      (λ first. events_of (but_last (pieces first))) (λ first. (law first).2)
      (subst (λ (cut : Bool). Ends how images a b around (with_lines left (input_lines left) cut its (whole fresh)) start
      held before after network random out sent) ((law left).1)
      (subst (λ (l : List Event). Ends how images a b around (with_lines left l (is_over_limit fresh left) its (whole fresh)) start
      held before after network random out sent) ((law left).0)
      (subst (λ (r : Reader). Ends how images a b around (input_of r left) start held before after network random out
      sent) is has)))

-- once the tables are read
module _ {D : Type 0} (images : D → List ℕ → Type 0) (a b : D) (given : Given) (tables : Tables)
    (left : Option (List ℕ)) (network : Option (List Incoming)) (random : Stream)
    (out : Option (List ℕ)) (sent : Option (List Datagram)) (is : tables_of given.rows ≡ Ok tables)
  where
    pub with_tables : (answer : Ran)
        → SessionLeaves answer images a b given tables left network random out sent
        → RunLeaves answer images a b given left network random out sent
    with_tables (ran.BadTables number) leaves = absurd leaves
    with_tables ran.TablesFault leaves = absurd leaves
    with_tables ran.TablesTooLong leaves = absurd leaves
    with_tables (ran.NotAStore side place) leaves = (tables, is, leaves)
    with_tables ran.OpeningFault leaves = (tables, is, leaves)
    with_tables ran.OutOfMemory leaves = leaves
    with_tables (ran.Ended how) leaves = (tables, is, leaves)

-- what is told of a place where the files are no store
abbrev pub place_told : OpenFault → (P : Side → ℕ → Type 0) → Type 0
place_told (fault.NotAStore side place) P = P side place
place_told fault.DiskFault P = ⊤
place_told fault.OutOfMemory P = ⊤

-- ---- no lines were taken

module _ {D : Type 0} (images : D → List ℕ → Type 0) (a b : D) (given : Given)
    (left : Option (List ℕ)) (network : Option (List Incoming)) (random : Stream)
    (out : Option (List ℕ)) (sent : Option (List Datagram)) (still : Still given out sent) where
  pub not_read : (after : Option (List ℕ)) (f : TablesFault) → Gives given.rows after (Err f)
      → RunLeaves (unread f) images a b given left network random out sent
  not_read after (tables.Bad number) reads = (reads, still)
  not_read after tables.ReadFault reads = still
  not_read after tables.TooLong reads = (reads.0, still)
  not_read after tables.OutOfMemory reads = still

  pub not_opened : (rows : Tables) (f : OpenFault) → place_told f (IsNoStore given.x given.y)
      → SessionLeaves (unopened f) images a b given rows left network random out sent
  not_opened rows (fault.NotAStore side place) told = (told, still)
  not_opened rows fault.DiskFault told = still
  not_opened rows fault.OutOfMemory told = still

pub without_tables : (f : TablesFault) (P : Type 0) → P → UnlessEnded (unread f) P
without_tables (tables.Bad number) P p = p
without_tables tables.ReadFault P p = p
without_tables tables.TooLong P p = p
without_tables tables.OutOfMemory P p = p

pub without_store : (f : OpenFault) (P : Type 0) → P → UnlessEnded (unopened f) P
without_store (fault.NotAStore side place) P p = p
without_store fault.DiskFault P p = p
without_store fault.OutOfMemory P p = p

module _ (in_old in_new tables_old tables_new a_old a_new b_old b_new link_old link_new out_old
    out_new : ℕ) where
  pub unread_cause : (f : TablesFault) → (f ≡ tables.ReadFault → Rose tables_old tables_new)
      → HasCauseOf (unread f) in_old in_new tables_old tables_new a_old a_new b_old b_new link_old
      link_new out_old out_new
  unread_cause (tables.Bad number) rose = tt
  unread_cause tables.ReadFault rose = rose refl
  unread_cause tables.TooLong rose = tt
  unread_cause tables.OutOfMemory rose = tt

  pub unopened_cause : (f : OpenFault)
      → (f ≡ fault.DiskFault → Rose a_old a_new ⊎ Rose b_old b_new)
      → HasCauseOf (unopened f) in_old in_new tables_old tables_new a_old a_new b_old b_new link_old
      link_new out_old out_new
  unopened_cause (fault.NotAStore side place) rose = tt
  unopened_cause fault.DiskFault rose = rose refl
  unopened_cause fault.OutOfMemory rose = tt

pub is_untabled : (f : TablesFault) (P : Type 0) → P → IfUntabled (unread f) P
is_untabled (tables.Bad number) P p = p
is_untabled tables.ReadFault P p = p
is_untabled tables.TooLong P p = p
is_untabled tables.OutOfMemory P p = tt

pub is_tabled : (f : OpenFault) (P : Type 0) → IfUntabled (unopened f) P
is_tabled (fault.NotAStore side place) P = tt
is_tabled fault.DiskFault P = tt
is_tabled fault.OutOfMemory P = tt

pub tabled_any : (answer : Ran) (P : Type 0) → IfUntabled answer ⊥ → IfUntabled answer P
tabled_any (ran.BadTables number) P none = absurd none
tabled_any ran.TablesFault P none = absurd none
tabled_any ran.TablesTooLong P none = absurd none
tabled_any (ran.NotAStore side place) P none = tt
tabled_any ran.OpeningFault P none = tt
tabled_any ran.OutOfMemory P none = tt
tabled_any (ran.Ended how) P none = tt

-- ---- what the tables and the files say

pub tables_faulty : (rows : List ℕ) (after : Option (List ℕ)) (f : TablesFault)
    → Gives rows after (Err f) → TablesSay (unread f) rows
tables_faulty rows after (tables.Bad number) reads = reads
tables_faulty rows after tables.ReadFault reads = tt
tables_faulty rows after tables.TooLong reads = reads.0
tables_faulty rows after tables.OutOfMemory reads = tt

pub tables_good : (answer : Ran) (rows : List ℕ) (its : Tables) → tables_of rows ≡ Ok its
    → IfUntabled answer ⊥ → TablesSay answer rows
tables_good (ran.BadTables number) rows its is none = absurd none
tables_good ran.TablesFault rows its is none = absurd none
tables_good ran.TablesTooLong rows its is none = absurd none
tables_good (ran.NotAStore side place) rows its is none = (its, is)
tables_good ran.OpeningFault rows its is none = (its, is)
tables_good ran.OutOfMemory rows its is none = tt
tables_good (ran.Ended how) rows its is none = (its, is)

pub files_untold : (f : TablesFault) (x y : List ℕ) → FilesSay (unread f) x y
files_untold (tables.Bad number) x y = tt
files_untold tables.ReadFault x y = tt
files_untold tables.TooLong x y = tt
files_untold tables.OutOfMemory x y = tt

pub files_faulty : (f : OpenFault) (x y : List ℕ) → place_told f (IsNoStore x y)
    → FilesSay (unopened f) x y
files_faulty (fault.NotAStore side place) x y told = told
files_faulty fault.DiskFault x y told = tt
files_faulty fault.OutOfMemory x y told = tt

-- ---- the files, where there are no lines

module _ {D : Type 0} (images : D → List ℕ → Type 0) (a b : D) (x y : List ℕ) where
  pub unopened_keeps : (why : OpenFault) → SessionKeeps (unopened why) images a b x y
  unopened_keeps (fault.NotAStore side place) = tt
  unopened_keeps fault.DiskFault = tt
  unopened_keeps fault.OutOfMemory = tt

  pub unread_keeps : (why : TablesFault) → SessionKeeps (unread why) images a b x y
  unread_keeps (tables.Bad number) = tt
  unread_keeps tables.ReadFault = tt
  unread_keeps tables.TooLong = tt
  unread_keeps tables.OutOfMemory = tt

-- ---- faults after the store was opened

rose_later : (old mid new : ℕ) → old ≤ mid → Rose mid new → Rose old new
rose_later old mid new le rose = omega (arith, le, rose)

pub cause_later : (how : Ended)
    (in_old in_new a_old a_mid a_new b_old b_mid b_new link_old link_new out_old out_new : ℕ)
    → a_old ≤ a_mid → b_old ≤ b_mid
    → HasCause how in_old in_new a_mid a_new b_mid b_new link_old link_new out_old out_new
    → HasCause how in_old in_new a_old a_new b_old b_new link_old link_new out_old out_new
cause_later ended.Done in_old in_new a_old a_mid a_new b_old b_mid b_new link_old link_new out_old out_new
    a_le b_le cause = tt
cause_later ended.InputTooLong in_old in_new a_old a_mid a_new b_old b_mid b_new link_old link_new out_old out_new
    a_le b_le cause = tt
cause_later ended.ReadFault in_old in_new a_old a_mid a_new b_old b_mid b_new link_old link_new out_old out_new
    a_le b_le cause = cause
cause_later ended.WriteFault in_old in_new a_old a_mid a_new b_old b_mid b_new link_old link_new out_old out_new
    a_le b_le cause = cause
cause_later ended.DiskFault in_old in_new a_old a_mid a_new b_old b_mid b_new link_old link_new out_old out_new
    a_le b_le (inl rose) = inl (rose_later a_old a_mid a_new a_le rose)
cause_later ended.DiskFault in_old in_new a_old a_mid a_new b_old b_mid b_new link_old link_new out_old out_new
    a_le b_le (inr rose) = inr (rose_later b_old b_mid b_new b_le rose)
cause_later ended.LinkFault in_old in_new a_old a_mid a_new b_old b_mid b_new link_old link_new out_old out_new
    a_le b_le cause = cause
