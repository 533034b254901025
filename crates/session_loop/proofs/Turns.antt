-- What a turn of the loop leaves.
use Rattle.std.proofs.Common.{◌≡◌, ◌≢◌, ◌∙◌, inl, inr, ℕ, List, [], ◌∷◌, ◌++◌, Bool, true, false, Option, None, Some, ap, append-nil, arith, refl, subst, sym}
use Rattle.std.proofs.Math.Dec.{leb-zero}
use Rattle.std.proofs.Math.Seq.{drop-nil}
use Rattle.std.proofs.lemmas.List.{drop-drop, take-append-drop}
use Rattle.std.specs.Prelude.{◌&&◌, ◌+◌, ◌-◌, ◌≤◌, ◌↔◌, IfSome, IsTrue, drop, if◌then◌else◌, nat_le, not, length, take}
use Rattle.session_server.specs.Files.{AreFilesOf}
use Rattle.session_server.specs.Configs.{Config}
use Rattle.line_splitting.specs.Lines.{Event, Line, TooLong, ended_pieces}
use Rattle.line_splitting.specs.Reading.{GivesLine, IsOver, Reader, ReadsMore, Took, TookNothing, begun as begun_with, events, is_over_limit, waiting_whole, whole}
use Rattle.r53_io.specs.Network.{Incoming}
use Rattle.rand_core.specs.Stream.{Stream}
use Rattle.octets.specs.Counts.{Rose}
use Rattle.session_loop.specs.Ending.{AllTold, EventComesTo, First, HasCause, IsAll, IsLeft, IsBroken, AreReplied}
use Rattle.session_loop.specs.Turning.{GoesOn, RoundLeaves, beyond, ended_of, input_of}
use Rattle.session_loop.specs.declared.ended.Ended.{Ended}
use Rattle.session_loop.specs.declared.ended.Ended.TheVariants as ended
use Rattle.session_server.specs.Replies.{memory_text, too_long_text}
use Rattle.session_server.specs.Serving.{Datagram}
use Rattle.session_server.specs.Sessions.{ComesTo, Session, begun, joined, told_alone}
use Rattle.session_server.specs.Steps.{OctetsStep, State, Step, Surroundings}
use Rattle.session_server.specs.Leaving.{HasCause as LineCause, ImagesOpen, Written}
use Rattle.session_server.specs.Standing.{Server, StandsFor}
use Rattle.session_server.specs.Taken.{Taken}
use Rattle.session_server.specs.Taken.TheVariants as taken
use Rattle.session_server.specs.Taking.{LineLeaves, OctetsAskDisk, OrMemory, PartOfOctets}
use Rattle.whole_writing.specs.Output.{OutputOf}
use Rattle.whole_writing.specs.declared.output.Output.{Output}
use Rattle.whole_writing.specs.declared.output.Output.TheVariants as output

-- ---- nothing was told so far

none_told : (old : State) (held : List ℕ) (before : List Datagram) (out : Option (List ℕ))
    (sent : Option (List Datagram)) → out ≡ Some held → sent ≡ Some before
    → AllTold (begun old) held before out sent
none_told old held before out sent tells was = record {
  replies = tells ∙ ap Some (sym (append-nil held));
  datagrams = was ∙ ap Some (sym (append-nil before));
}

some_first : (around : Surroundings) (lines more : List Event) (old : State) → lines ≡ more
    → First around lines old more (begun old)
some_first around lines more old is =
    record { done = []; choices = []; parts = is; comes = refl }

-- ---- turns without a line

-- what isn't taken of the source stays, where the source was read
beyond_read : (old new : Reader) (left : List ℕ) (is_over : Bool) → old.ended ≡ false
    → new.ended ≡ is_over → new.budget ≤ old.budget → (IsTrue new.ended ↔ (left ≡ []))
    → beyond new (drop (old.budget - new.budget) left) ≡ beyond old left
beyond_read old new left true going is counted end =
    let none : left ≡ [] = end.0 is in
    ap (λ (e : Bool). if e then drop (old.budget - new.budget) left
    else drop new.budget (drop (old.budget - new.budget) left)) is
    ∙ ap (λ (l : List ℕ). drop (old.budget - new.budget) l) none
    ∙ drop-nil (old.budget - new.budget) ∙ sym (drop-nil old.budget)
    ∙ ap (λ (l : List ℕ). drop old.budget l) (sym none)
    ∙ sym (ap (λ (e : Bool). if e then left else drop old.budget left) going)
beyond_read old new left false going is counted end =
    ap (λ (e : Bool). if e then drop (old.budget - new.budget) left
    else drop new.budget (drop (old.budget - new.budget) left)) is
    ∙ drop-drop new.budget (old.budget - new.budget) left
    ∙ ap (λ (n : ℕ). drop n left) (omega (arith, counted))
    ∙ sym (ap (λ (e : Bool). if e then left else drop old.budget left) going)

-- the source was read
pub read : (around : Surroundings) (old new : Reader) (left : List ℕ) (after : Option (List ℕ))
    (start : State) (server : Server) (network : Option (List Incoming)) (random : Stream)
    (held : List ℕ) (before : List Datagram) (out : Option (List ℕ))
    (sent : Option (List Datagram)) → ReadsMore old → Took old left new after
    → StandsFor start server network random → out ≡ Some held → sent ≡ Some before
    → GoesOn around old new left after start server network random held before out sent
unfolding some_first
read around old new left after start server network random held before out sent on took stands
    tells was = record {
      seen = take (old.budget - new.budget) left;
      rest = drop (old.budget - new.budget) left;
      session = begun start;
      parts = sym (take-append-drop (old.budget - new.budget) left);
      has = took.rest;
      first = some_first around (events old left) (events new _) start (sym took.events);
      cut = took.is_over_limit;
      beyond = beyond_read old new left new.ended on.going refl took.counted took.end;
      going = λ is. on.going;
      whole = λ is more. took.whole on.going is more;
      told = none_told start held before out sent tells was;
      stands = stands;
    }

-- No line waits, and none ends within what was read since.
pub none_ends : (old : Reader) → waiting_whole old ≡ [] → whole old [] ≡ []
none_ends old none =
    ap (λ (w : List ℕ). begun_with old.dropped (ended_pieces (not old.ended) w))
    (append-nil old.waiting) ∙ none

module _ {D : Type 0} (images : D → List ℕ → Type 0) (a b : D) (around : Surroundings)
    (start : State) (held : List ℕ) (before : List Datagram)
    (network : Option (List Incoming)) (random : Stream) (out : Option (List ℕ))
    (sent : Option (List Datagram)) (server : Server)
    (stands : StandsFor start server network random) where
  -- no line more was taken
  told_now : (lines more : List Event) → lines ≡ more → out ≡ Some held → sent ≡ Some before
      → AreFilesOf images a b start.engine
      → AreReplied images a b around lines start more held before network random out sent
  told_now lines more is tells was files = record {
    session = begun start;
    first = some_first around lines more start is;
    told = none_told start held before out sent tells was;
    rest = record { coming = stands.coming; words = stands.words };
    files = files;
  }

  pub all_now : (r : Reader) (left : List ℕ) (after : Option (List ℕ)) → after ≡ Some left
      → left ≡ beyond r left → events r left ≡ [] → out ≡ Some held → sent ≡ Some before
      → AreFilesOf images a b start.engine
      → IsAll images a b around (input_of r left) start held before after network random out sent
  all_now r left after has beyond_it none tells was files = (
    has ∙ ap Some beyond_it,
    told_now (events r left) [] none tells was files,
  )

  pub broken_now : (r new : Reader) (left : List ℕ) (after : Option (List ℕ)) → ReadsMore r
      → TookNothing r left new after → out ≡ Some held → sent ≡ Some before
      → AreFilesOf images a b start.engine
      → IsBroken images a b around (input_of r left) start held before after network random out sent
  unfolding told_now some_first
  broken_now r new left after on nothing tells was files = record {
    seen = [];
    unseen = left;
    more = events r left;
    parts = refl;
    has = nothing.rest;
    all = told_now (events r left) (events r left) refl tells was files;
    ending = sym (none_ends r on.ready);
  }

-- where a reader stopped, at the end of its source or at the limit
pub at_end : (r : Reader) (left : List ℕ) → r.ended ≡ true → left ≡ beyond r left
at_end r left is = sym (ap (λ (e : Bool). if e then left else drop r.budget left) is)

pub at_limit : (r : Reader) (left : List ℕ) → r.ended ≡ false → r.budget ≡ 0
    → left ≡ beyond r left
at_limit r left is none =
    sym (ap (λ (e : Bool). if e then left else drop r.budget left) is
    ∙ ap (λ (n : ℕ). drop n left) none)

pub is_whole : (r : Reader) (left : List ℕ) → r.ended ≡ true → is_over_limit r left ≡ false
is_whole r left is = ap (λ (e : Bool). not e && nat_le r.budget (length left)) is

pub is_more : (r : Reader) (left : List ℕ) → r.ended ≡ false → r.budget ≡ 0 → is_over_limit r left ≡ true
is_more r left is none =
    ap (λ (e : Bool). not e && nat_le r.budget (length left)) is
    ∙ ap (λ (n : ℕ). nat_le n (length left)) none ∙ leb-zero (length left)

-- ---- a line

-- what comes of a line, with its choice
comes_of : (around : Surroundings) (octets : List ℕ) (old : State) (step : Step)
    → OrMemory (OctetsStep around octets old) old step
    → EventComesTo around (Line octets) old step
comes_of around octets old step (inl is) = (true, is)
comes_of around octets old step (inr steps) = (false, steps)

same_beyond : (old new : Reader) (event : Event) (left : List ℕ) → GivesLine old event new
    → beyond new left ≡ beyond old left
same_beyond old new event left gives =
    ap (λ (e : Bool). if e then left else drop new.budget left) gives.ended
    ∙ ap (λ (n : ℕ). if old.ended then left else drop n left) gives.budget

same_cut : (old new : Reader) (event : Event) (left : List ℕ) → GivesLine old event new
    → is_over_limit new left ≡ is_over_limit old left
same_cut old new event left gives =
    ap (λ (e : Bool). not e && nat_le new.budget (length left)) gives.ended
    ∙ ap (λ (n : ℕ). not old.ended && nat_le n (length left)) gives.budget

module _ {D : Type 0} (images : D → List ℕ → Type 0) (a b : D) (around : Surroundings)
    (old new : Reader) (left : List ℕ) (after : Option (List ℕ)) (has : after ≡ Some left)
    (start : State) (server : Server) (network : Option (List Incoming)) (random : Stream)
    (held : List ℕ) (before : List Datagram) (out : Option (List ℕ))
    (sent : Option (List Datagram)) where
  -- one step more, told whole
  went : (event : Event) → GivesLine old event new → (step : Step) (choices : List Bool)
      → ComesTo around (event ∷ []) choices start (joined step (begun step.new))
      → StandsFor step.new server network random → out ≡ Some (held ++ step.reply)
      → sent ≡ Some (before ++ step.sent)
      → GoesOn around old new left after start server network random held before out sent
  went event gives step choices comes stands was so = record {
    seen = [];
    rest = left;
    session = joined step (begun step.new);
    parts = refl;
    has = has;
    first = record {
      done = event ∷ [];
      choices = choices;
      parts = gives.events left;
      comes = comes;
    };
    cut = same_cut old new event left gives;
    beyond = same_beyond old new event left gives;
    going = λ is. sym gives.ended ∙ is;
    whole = λ is more. sym (gives.whole (sym gives.ended ∙ is) more);
    told = record {
      replies = was ∙ ap (λ (l : List ℕ). Some (held ++ l)) (sym (append-nil step.reply));
      datagrams = so ∙ ap (λ (l : List Datagram). Some (before ++ l)) (sym (append-nil step.sent));
    };
    stands = stands;
  }

  -- a part of its reply was written
  cut_off : (event : Event) → GivesLine old event new → (step : Step)
      → EventComesTo around event start step → StandsFor step.new server network random
      → OutputOf held out output.Failed step.reply
      → sent ≡ Some (before ++ step.sent) → AreFilesOf images a b step.new.engine
      → RoundLeaves (ended_of taken.WriteFault) images a b around old new left after start server
      network random held before out sent
  cut_off event gives step comes here was so files = record {
    session = begun start;
    event = event;
    more = events new left;
    step = step;
    first = some_first around (events old left) (event ∷ events new left) start (gives.events left);
    comes = comes;
    reply = subst (λ (l : List ℕ). OutputOf l out output.Failed step.reply) (sym (append-nil held))
        was;
    datagrams = so ∙ ap (λ (l : List Datagram). Some (l ++ step.sent)) (sym (append-nil before));
    rest = record { coming = here.coming; words = here.words };
    files = files;
  }

  pub line_turn : (octets : List ℕ) → GivesLine old (Line octets) new → (Given : Type 0) → Given
      → (answer : Taken)
      → ((now : State) → answer ≢ taken.DiskFault → StandsFor now server network random
      → AreFilesOf images a b now.engine)
      → (answer ≡ taken.LinkFault → AreFilesOf images a b start.engine)
      → (answer ≡ taken.DiskFault → IsLeft start network random)
      → (answer ≡ taken.DiskFault → OctetsAskDisk octets start.engine)
      → LineLeaves answer (OctetsStep around octets start)
      (PartOfOctets around octets start before network sent) Given
      (ImagesOpen images a b start.engine.config) start
      (λ now. StandsFor now server network random) held before out sent
      → RoundLeaves (ended_of answer) images a b around old new left after start server network random
      held before out sent
  line_turn octets gives Given given taken.Replied files still torn_left asks (step, came, here, was, so) =
      let comes = comes_of around octets start step came in
      went (Line octets) gives step (comes.0 ∷ []) (step, begun step.new, comes.1, refl, refl) here was
      so
  line_turn octets gives Given given taken.WriteFault files still torn_left asks (step, came, here, was, so) =
      cut_off (Line octets) gives step (comes_of around octets start step came) here was so
      (files step.new (λ e. absurd (Prim.cc)) here)
  line_turn octets gives Given given taken.DiskFault files still torn_left asks (was, so, torn) =
      let t = torn given in
      record {
        session = begun start;
        octets = octets;
        more = events new left;
        step = t.0;
        first = some_first around (events old left) (Line octets ∷ events new left) start
            (gives.events left);
        told = none_told start held before out sent was so;
        rest = torn_left refl;
        asks = asks refl;
        steps = t.1;
        files = t.2;
      }
  line_turn octets gives Given given taken.LinkFault files still torn_left asks (was, part) = record {
    session = begun start;
    octets = octets;
    more = events new left;
    first = some_first around (events old left) (Line octets ∷ events new left) start
        (gives.events left);
    replies = was ∙ ap Some (sym (append-nil held));
    part = subst (λ (l : List Datagram). PartOfOctets around octets start l network sent)
        (sym (append-nil before)) part;
    files = still refl;
  }

  -- a line that is too long
  pub long_turn : GivesLine old TooLong new → (answer : Taken)
      → StandsFor start server network random → sent ≡ Some before
      → AreFilesOf images a b start.engine → Written answer held out too_long_text
      → RoundLeaves (ended_of answer) images a b around old new left after start server network random
      held before out sent
  long_turn gives taken.Replied stands was files told =
      went TooLong gives (told_alone too_long_text start) [] (begun start, refl, refl) stands told
      (was ∙ ap Some (sym (append-nil before)))
  long_turn gives taken.WriteFault stands was files told =
      cut_off TooLong gives (told_alone too_long_text start) refl stands told
      (was ∙ ap Some (sym (append-nil before))) files
  long_turn gives taken.DiskFault stands was files told = absurd told
  long_turn gives taken.LinkFault stands was files told = absurd told

-- ---- faults

pub went_whole : (answer : Taken) → ended_of answer ≡ None → answer ≢ taken.DiskFault
went_whole taken.Replied is e = absurd (Prim.cc)
went_whole taken.WriteFault is e = absurd (Prim.cc)
went_whole taken.DiskFault is e = absurd (Prim.cc)
went_whole taken.LinkFault is e = absurd (Prim.cc)

pub never_read : (answer : Taken) → ended_of answer ≡ Some ended.ReadFault → ⊥
never_read taken.Replied is = absurd (Prim.cc)
never_read taken.WriteFault is = absurd (Prim.cc)
never_read taken.DiskFault is = absurd (Prim.cc)
never_read taken.LinkFault is = absurd (Prim.cc)

pub link_whole : (answer : Taken) → answer ≡ taken.LinkFault → answer ≢ taken.DiskFault
link_whole answer is e = absurd (Prim.cc)

none_rose : Rose 0 0 → ⊥
none_rose c = omega (arith, c)

pub cause_of : (answer : Taken)
    (in_old in_new a_old a_new b_old b_new link_old link_new out_old out_new : ℕ)
    → LineCause answer a_old a_new b_old b_new link_old link_new out_old out_new
    → IfSome (ended_of answer) (λ how. HasCause how in_old in_new a_old a_new b_old b_new link_old
    link_new out_old out_new)
cause_of taken.Replied in_old in_new a_old a_new b_old b_new link_old link_new out_old out_new c = tt
cause_of taken.WriteFault in_old in_new a_old a_new b_old b_new link_old link_new out_old out_new c =
    c
cause_of taken.DiskFault in_old in_new a_old a_new b_old b_new link_old link_new out_old out_new c = c
cause_of taken.LinkFault in_old in_new a_old a_new b_old b_new link_old link_new out_old out_new c = c

-- of a line that asks the output alone
pub long_cause : (answer : Taken)
    (in_old in_new a_old a_new b_old b_new link_old link_new out_old out_new : ℕ)
    → LineCause answer 0 0 0 0 0 0 out_old out_new
    → IfSome (ended_of answer) (λ how. HasCause how in_old in_new a_old a_new b_old b_new link_old
    link_new out_old out_new)
long_cause taken.Replied in_old in_new a_old a_new b_old b_new link_old link_new out_old out_new c = tt
long_cause taken.WriteFault in_old in_new a_old a_new b_old b_new link_old link_new out_old out_new c =
    c
long_cause taken.DiskFault in_old in_new a_old a_new b_old b_new link_old link_new out_old out_new
    (inl c) =
    absurd (none_rose c)
long_cause taken.DiskFault in_old in_new a_old a_new b_old b_new link_old link_new out_old out_new
    (inr c) =
    absurd (none_rose c)
long_cause taken.LinkFault in_old in_new a_old a_new b_old b_new link_old link_new out_old out_new c =
    absurd (none_rose c)
