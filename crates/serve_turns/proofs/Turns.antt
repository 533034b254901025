-- Turns, one after another.
use Rattle.std.proofs.Common.{◌≡◌, ◌≤◌, ◌<◌, ℕ, zero, suc, ◌+◌, ◌-◌, List, [], ◌∷◌, Option, Some, ap, ◌∙◌, sym, refl, subst, arith, append-nil}
use Rattle.session_model.specs.Engine.{Engine}
use Rattle.geo_latency.specs.declared.tables.Tables.{Tables}
use Rattle.r53_core.specs.Stores.{StandsFor, State as Store}
use Rattle.r53_io.specs.Network.{Incoming}
use Rattle.rand_core.specs.Stream.{Stream}
use Rattle.session_model.specs.TurnsRecord.{Turns}
use Rattle.serve_turns.specs.Turning.{AreWithin, Counts, Standing, IsAsDefined, TurnLeaves, TurnsLeave}
use Rattle.serve_turns.specs.Turning.{first, with_turns}
use Rattle.serve_turns.specs.declared.serving.TurnsTaken.{TurnsTaken as Answer}
use Rattle.serve_turns.specs.declared.serving.TurnsTaken.TheVariants as answer
use Rattle.serve_turns.specs.declared.turning.Turn.{Turn}
use Rattle.serve_turns.specs.declared.turning.Turn.TheVariants as turn
use Rattle.session_model.specs.Serving.{Datagram, TurnsOutcome, TakesTurn, TakesTurns, none}

module _ (tables : Tables) where
  -- one turn more
  pub one_more : (n : ℕ) (arrivals : List Incoming) (old : TurnsOutcome) (came : Incoming)
      (more : List Incoming) (mid new : TurnsOutcome)
      → TakesTurns tables n arrivals old (came ∷ more) mid → TakesTurn tables came mid new
      → TakesTurns tables (suc n) arrivals old more new
  one_more zero arrivals old came more mid new (same, here) turn =
      subst (λ (l : List Incoming). TakesTurns tables 1 l old more new) same
      (new, subst (λ (s : TurnsOutcome). TakesTurn tables came s new) here turn, (refl, refl))
  one_more (suc n) [] old came more mid new (never, here) turn = absurd (Prim.cc)
  one_more (suc n) (next ∷ arrivals) old came more mid new (then, one, others) turn =
      (then, one, one_more n arrivals then came more mid new others turn)

  -- where nothing is to come, more turns are none more
  none_more : (k : ℕ) (old new : TurnsOutcome) → new ≡ old → TakesTurns tables k [] old [] new
  none_more zero old new same = (refl, same)
  none_more (suc k) old new same = (refl, same)

  pub closed : (n k : ℕ) (arrivals : List Incoming) (old new : TurnsOutcome)
      → TakesTurns tables n arrivals old [] new → TakesTurns tables (n + k) arrivals old [] new
  closed zero k arrivals old new (nothing, same) =
      let n : 0 + k ≡ k = omega arith in
      subst (λ (m : ℕ). TakesTurns tables m arrivals old [] new) (sym n)
      (subst (λ (l : List Incoming). TakesTurns tables k l old [] new) nothing
      (none_more k old new same))
  closed (suc n) k [] old new (nothing, same) = none_more (suc n + k) old new same
  closed (suc n) k (next ∷ arrivals) old new (then, one, others) =
      let m : suc n + k ≡ suc (n + k) = omega arith in
      subst (λ (m : ℕ). TakesTurns tables m (next ∷ arrivals) old [] new) (sym m)
      (then, one, closed n k arrivals then new others)

-- So far, of these that the network tells.
module _ (tables : Tables) (start : Store) (words : Stream) (coming : Option (List Incoming))
    (sent : Option (List Datagram)) where
  pub record Told (engine : Engine) (arrivals : List Incoming) (before : List Datagram)
      (held : Engine → Type 0) (now : Standing) : Type 0 where
    pub left : List Incoming
    pub served : TurnsOutcome
    pub taken : TakesTurns tables now.turns.turns arrivals (first engine words) left served
    pub stands_for : held served.engine
    pub stands : IsAsDefined before served left now

  abbrev pub SoFar : (held : Engine → Type 0) → Standing → Type 0
  SoFar held now = (engine : Engine) (arrivals : List Incoming) (before : List Datagram)
      → StandsFor engine start → coming ≡ Some arrivals → sent ≡ Some before
      → Told engine arrivals before held now

  -- what comes of a turn
  abbrev pub Turned : (held next : Engine → Type 0) (now then : Standing) → Turn → Type 0
  Turned held next now then came = (before : List Datagram) (old : TurnsOutcome)
      (arrivals : List Incoming) → held old.engine → IsAsDefined before old arrivals now
      → TurnLeaves came tables before old arrivals next then

  number : (m n : ℕ) → n ≡ m + 1 → suc m ≡ n
  number m n same = omega (arith, same)

  -- a turn more
  pub goes_on : (held next : Engine → Type 0) (now then : Standing) → SoFar held now
      → Counts turn.Taken now.turns then.turns → Turned held next now then turn.Taken
      → SoFar next then
  goes_on held next now then so_far counts leaves engine arrivals before stands_for comes was =
      let told = so_far engine arrivals before stands_for comes was in
      let its = leaves before told.served told.left told.stands_for told.stands in
      record {
        left = its.1;
        served = its.2;
        taken = subst (λ (n : ℕ). TakesTurns tables n arrivals (first engine words) its.1 its.2)
            (number now.turns.turns then.turns.turns counts.0)
            (one_more tables now.turns.turns arrivals (first engine words) its.0 its.1
            told.served its.2
            (subst (λ (l : List Incoming). TakesTurns tables now.turns.turns arrivals
            (first engine words) l told.served) its.3 told.taken) its.4);
        stands_for = its.5;
        stands = its.6;
      }

  -- ---- the end

  module _ (n : ℕ) (held next : Engine → Type 0) (now then : Standing) (so_far : SoFar held now) where
    abbrev pub Ends : Answer → (left : Engine → Type 0) → Standing → Type 0
    Ends came left at = (engine : Engine) (arrivals : List Incoming) (before : List Datagram)
        → StandsFor engine start → coming ≡ Some arrivals → sent ≡ Some before
        → TurnsLeave came tables before n (first engine words) arrivals left (with_turns none at)

    pub all_taken : now.turns.turns ≡ n → Ends (answer.Took now.turns) held now
    all_taken all engine arrivals before stands_for comes was =
        let told = so_far engine arrivals before stands_for comes was in (
          told.left,
          told.served,
          subst (λ (m : ℕ). TakesTurns tables m arrivals (first engine words) told.left told.served)
              all told.taken,
          told.stands_for,
          told.stands,
        )

    pub at_close : now.turns.turns ≤ n → then.turns ≡ now.turns
        → Turned held next now then turn.Closed → Ends (answer.Took then.turns) next then
    at_close within same leaves engine arrivals before stands_for comes was =
        let told = so_far engine arrivals before stands_for comes was in
        let its = leaves before told.served told.left told.stands_for told.stands in
        let all : now.turns.turns + (n - now.turns.turns) ≡ n = omega (arith, within) in (
          [],
          told.served,
          subst (λ (m : ℕ). TakesTurns tables m arrivals (first engine words) [] told.served) all
              (closed tables now.turns.turns (n - now.turns.turns) arrivals (first engine words)
              told.served
              (subst (λ (l : List Incoming). TakesTurns tables now.turns.turns arrivals
              (first engine words) l told.served) its.0 told.taken)),
          its.1,
          its.2,
        )

    pub at_fault : now.turns.turns < n → Turned held next now then turn.Failed
        → Ends answer.Failed next then
    at_fault more leaves engine arrivals before stands_for comes was =
        let told = so_far engine arrivals before stands_for comes was in
        let its = leaves before told.served told.left told.stands_for told.stands in (
          now.turns.turns,
          told.left,
          told.served,
          more,
          told.taken,
          its.0,
          its.1,
          its.2,
        )

-- the beginning
pub at_start : (tables : Tables) (start : Store) (words : Stream) (coming : Option (List Incoming))
    (sent : Option (List Datagram)) (turns : Turns) → turns ≡ none → (held : Engine → Type 0)
    → ((engine : Engine) → StandsFor engine start → held engine)
    → SoFar tables start words coming sent held
    (record { words = words; turns = turns; coming = coming; sent = sent })
at_start tables start words coming sent turns none_yet held here engine arrivals before stands_for comes was =
    record {
      left = arrivals;
      served = first engine words;
      taken = subst (λ (t : Turns). TakesTurns tables t.turns arrivals (first engine words) arrivals
          (first engine words)) (sym none_yet) (refl, refl);
      stands_for = here engine stands_for;
      stands = record {
        words = refl;
        turns = sym none_yet;
        coming = comes;
        sent = was ∙ ap Some (sym (append-nil before));
      };
    }

-- what turns leave says less where less is said of the store
pub leave_less : (came : Answer) (tables : Tables) (before : List Datagram) (n : ℕ) (old : TurnsOutcome)
    (arrivals : List Incoming) (P Q : Engine → Type 0) (now : Standing) → ((engine : Engine) → P engine → Q engine)
    → TurnsLeave came tables before n old arrivals P now → TurnsLeave came tables before n old arrivals Q now
leave_less (answer.Took turns) tables before n old arrivals P Q now less (left, new, taken, here, stands) =
    (left, new, taken, less new.engine here, stands)
leave_less answer.Failed tables before n old arrivals P Q now less (k, left, new, few, taken, here, sent, more) =
    (k, left, new, few, taken, less new.engine here, sent, more)

-- ---- counts

pub none_within : (n : ℕ) (turns : Turns) → turns ≡ none → AreWithin n turns
none_within n turns same = subst (λ (t : Turns). AreWithin n t) (sym same) (record {
  turns = omega arith;
  answered = omega arith;
  silent = omega arith;
  reports = omega arith;
  unknown = omega arith;
  quiet = omega arith;
})

pub weaker : (n : ℕ) (turns : Turns) → AreWithin turns.turns turns → turns.turns ≤ n
    → AreWithin n turns
weaker n turns within few = record {
  turns = few;
  answered = within.answered;
  silent = within.silent;
  reports = within.reports;
  unknown = within.unknown;
  quiet = within.quiet;
}
