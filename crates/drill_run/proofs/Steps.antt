-- Lines one after another.
use Rattle.std.proofs.Common.{◌≡◌, ◌≢◌, ◌∙◌, ◌⊎◌, inl, inr, ℕ, ◌+◌, ◌*◌, ◌%◌, ◌<◌, ◌≤◌, suc, List, length, take, ap, Result, Ok, Err, add-one, arith, refl, subst, sym}
use Rattle.std.proofs.lemmas.List.{length-take}
use Rattle.batch_json.specs.declared.asking.Line.{Line}
use Rattle.drill_run.specs.Counting.{Does, IsBelow, OctetsDo, OctetsHalt, OrMemory, Progress, HasProgress, MayDo, Halts, ToldDoes, no_counts, uncounted}
use Rattle.drill_run.specs.Drills.{LinesRun, CompactsBehind, EventLinesRun, SetsUp, no_tables}
use Rattle.drill_run.specs.Leaving.{IfOn, IfHalted, IsHalf, IsHalted, IsHaltedAt, IsHaltedIn, IsHaltedRunning}
use Rattle.drill_run.specs.declared.counting.Tally.{Tally}
use Rattle.drill_run.specs.declared.taking.Went.{Went}
use Rattle.drill_run.specs.declared.taking.Went.TheVariants as went
use Rattle.engine_model.specs.Engine.{Engine}
use Rattle.geo_latency.specs.declared.tables.Tables.{Tables}
use Rattle.line_faults.specs.declared.fault.LineFault.{LineFault}
use Rattle.line_faults.specs.declared.fault.LineFault.TheVariants.{OutOfMemory}
use Rattle.r53_core.specs.Stores.{StandsFor, State as Store}
use Rattle.r53_gen.specs.Lines.{compaction, event_line, setup, setup_count}
use Rattle.session_model.specs.Asking.{Asks}

pub on_mapped : (w : Went) (P Q : Type 0) → (P → Q) → IfOn w P → IfOn w Q
on_mapped went.On P Q f p = f p
on_mapped went.Halted P Q f p = tt

pub torn_mapped : (w : Went) (P Q : Type 0) → (P → Q) → IfHalted w P → IfHalted w Q
torn_mapped went.On P Q f p = tt
torn_mapped went.Halted P Q f p = f p

-- both answers have it
pub on_always : (w : Went) (P : Type 0) → P → IfOn w P
on_always went.On P p = p
on_always went.Halted P p = tt

-- nothing was counted
pub none_below : (n : ℕ) (tally : Tally) → tally ≡ no_counts → IsBelow n tally
none_below n tally is = subst (λ (t : Tally). IsBelow n t) (sym is) (record {
  batches = omega arith;
  missing = omega arith;
  records = omega arith;
  octets = omega arith;
  reports = omega arith;
})

-- more than that was not counted either
pub below_more : (n m : ℕ) (tally : Tally) → n ≤ m → IsBelow n tally → IsBelow m tally
below_more n m tally le below = record {
  batches = omega (arith, le, below.batches);
  missing = omega (arith, le, below.missing);
  records = omega (arith, le, below.records);
  octets = omega (arith, le, below.octets);
  reports = omega (arith, le, below.reports);
}

-- a text that was written to the front is within the buffer
pub within : (n : ℕ) (into text : List ℕ) → take n into ≡ text → n ≡ length text → n ≤ length into
within n into text is len = omega (arith, len, ap length is, length-take n into)

-- ---- a line of octets

-- what was asked is no want of memory
pub some_asked : (asked : Line) → ◌≢◌ {A = Result Line LineFault} (Ok asked) (Err OutOfMemory)
some_asked asked e = absurd (Prim.cc)

module _ (tables : Tables) (octets : List ℕ) (asked : Line) (asks : Asks octets (Ok asked)) where
  pub read_does : (old new : Progress) → Does tables asked old new
      → OctetsDo tables octets old new
  read_does old new does = (Ok asked, asks, does)

  pub read_taken : (old : Progress) (store : Store) (tally : Tally)
      → ((new : Progress) × OrMemory (Does tables asked) old new × HasProgress new store tally)
      → (new : Progress) × OrMemory (OctetsDo tables octets) old new × HasProgress new store tally
  read_taken old store tally (new, inl same, at) = (new, inl same, at)
  read_taken old store tally (new, inr does, at) = (new, inr (read_does old new does), at)

  pub read_half : {D : Type 0} (images : D → List ℕ → Type 0) (a b : D) (old : Progress)
      → IsHalf images a b (Halts tables asked) old
      → IsHalf images a b (OctetsHalt tables octets) old
  read_half images a b old (new, tears, opens) = (new, (asked, asks, tears), opens)

-- the same line over the same tables
module _ (tables : Tables) (octets line : List ℕ) (is : tables ≡ no_tables) (same : octets ≡ line)
  where
    pub takes_so : (old new : Progress) → OrMemory (OctetsDo tables octets) old new
        → MayDo no_tables line old new
    takes_so old new steps =
        subst (λ (t : Tables). OrMemory (OctetsDo t line) old new) is
        (subst (λ (o : List ℕ). OrMemory (OctetsDo tables o) old new) same steps)

    pub taken_so : (w : Went) (old : Progress) (store : Store) (tally : Tally)
        → IfOn w ((new : Progress) × OrMemory (OctetsDo tables octets) old new × HasProgress new store tally)
        → IfOn w ((new : Progress) × MayDo no_tables line old new × HasProgress new store tally)
    taken_so went.On old store tally (new, steps, at) = (new, takes_so old new steps, at)
    taken_so went.Halted old store tally went_on = tt

    pub half_so : {D : Type 0} (images : D → List ℕ → Type 0) (a b : D) (w : Went) (old : Progress)
        → IfHalted w (IsHalf images a b (OctetsHalt tables octets) old)
        → IfHalted w (IsHalf images a b (OctetsHalt no_tables line) old)
    half_so images a b went.On old half = tt
    half_so images a b went.Halted old half =
        subst (λ (t : Tables). IsHalf images a b (OctetsHalt t line) old) is
        (subst (λ (o : List ℕ). IsHalf images a b (OctetsHalt tables o) old) same half)

-- ---- the setup

pub none_set_up : (start : Progress) → SetsUp 0 start start
unfolding SetsUp
none_set_up start = refl

module _ (i : ℕ) (start : Engine) (old : Progress) (before : SetsUp i (uncounted start) old) where
  pub set_up_next : (w : Went) (store : Store) (tally : Tally)
      → IfOn w ((new : Progress) × MayDo no_tables (setup i) old new × HasProgress new store tally)
      → IfOn w ((new : Progress) × SetsUp (i + 1) (uncounted start) new × HasProgress new store tally)
  unfolding SetsUp
  set_up_next went.On store tally (new, takes, at) = (
    new,
    subst (λ (n : ℕ). SetsUp n (uncounted start) new) (sym (add-one i)) (old, before, takes),
    at,
  )
  set_up_next went.Halted store tally went_on = tt

  pub set_up_half : {D : Type 0} (images : D → List ℕ → Type 0) (a b : D) (w : Went)
      → i < setup_count → IfHalted w (IsHalf images a b (OctetsHalt no_tables (setup i)) old)
      → IfHalted w (IsHaltedIn images a b start)
  set_up_half images a b went.On within half = tt
  set_up_half images a b went.Halted within half =
      record { i = i; within = within; old = old; before = before; half = half }

-- ---- events

pub none_ran : (start : Progress) → EventLinesRun 0 start start
unfolding EventLinesRun
none_ran start = refl

module _ (k : ℕ) (start old : Progress) (before : EventLinesRun k start old) where
  -- the line of the event, and then what stands behind it
  pub run_next : (middle : Progress) → MayDo no_tables (event_line k) old middle
      → (w : Went) (store : Store) (tally : Tally)
      → IfOn w ((new : Progress) × CompactsBehind k middle new × HasProgress new store tally)
      → IfOn w ((new : Progress) × EventLinesRun (k + 1) start new × HasProgress new store tally)
  unfolding EventLinesRun
  run_next middle takes went.On store tally (new, goes, at) = (
    new,
    subst (λ (n : ℕ). EventLinesRun n start new) (sym (add-one k)) (old, middle, before, takes, goes),
    at,
  )
  run_next middle takes went.Halted store tally went_on = tt

  pub torn_first : {D : Type 0} (images : D → List ℕ → Type 0) (a b : D)
      → IsHalf images a b (OctetsHalt no_tables (event_line k)) old → IsHaltedAt images a b k start
  torn_first images a b half = inl (old, before, half)

  pub torn_behind : {D : Type 0} (images : D → List ℕ → Type 0) (a b : D) (w : Went)
      (middle : Progress) → MayDo no_tables (event_line k) old middle
      → IfHalted w ((k % 10000 ≡ 9999)
      × IsHalf images a b (OctetsHalt no_tables compaction) middle)
      → IfHalted w (IsHaltedAt images a b k start)
  torn_behind images a b went.On middle takes half = tt
  torn_behind images a b went.Halted middle takes (is, half) =
      inr (middle, old, is, before, takes, half)

-- what stands behind an event
module _ (k : ℕ) (old : Progress) where
  pub behind_on : (w : Went) (store : Store) (tally : Tally) → k % 10000 ≡ 9999
      → IfOn w ((new : Progress) × MayDo no_tables compaction old new × HasProgress new store tally)
      → IfOn w ((new : Progress) × CompactsBehind k old new × HasProgress new store tally)
  behind_on went.On store tally is (new, takes, at) = (new, inl (is, takes), at)
  behind_on went.Halted store tally is went_on = tt

  pub nothing_behind : (store : Store) (tally : Tally) → k % 10000 ≢ 9999 → HasProgress old store tally
      → (new : Progress) × CompactsBehind k old new × HasProgress new store tally
  nothing_behind store tally other at = (old, inr (other, refl), at)

-- ---- all lines

pub torn_in_setup : {D : Type 0} (images : D → List ℕ → Type 0) (a b : D) (n : ℕ) (start : Engine)
    → IsHaltedIn images a b start → IsHalted images a b n start
torn_in_setup images a b n start torn = inl torn

pub torn_in_events : {D : Type 0} (images : D → List ℕ → Type 0) (a b : D) (n : ℕ)
    (start : Engine) (made : Progress) → SetsUp setup_count (uncounted start) made → (w : Went)
    → IfHalted w (IsHaltedRunning images a b n (uncounted made.engine))
    → IfHalted w (IsHalted images a b n start)
torn_in_events images a b n start made sets_up went.On torn = tt
torn_in_events images a b n start made sets_up went.Halted torn = inr (made, sets_up, torn)

pub drilled : (n : ℕ) (start : Engine) (made : Progress)
    → SetsUp setup_count (uncounted start) made → (w : Went) (store : Store) (tally : Tally)
    → IfOn w ((end : Progress) × EventLinesRun n (uncounted made.engine) end × HasProgress end store tally)
    → IfOn w ((end : Progress) × LinesRun n start end × HasProgress end store tally)
drilled n start made sets_up went.On store tally (end, runs, at) =
    (end, record { made = made; sets_up = sets_up; runs = runs }, at)
drilled n start made sets_up went.Halted store tally went_on = tt
