-- What comes of lines on the network.
use Rattle.std.proofs.Common.{◌≡◌, inl, inr, ℕ, List, [], ◌++◌, true, false, Option, Some, ap, ◌∙◌, sym, refl, subst, append-nil}
use Rattle.serve_turns.specs.LineRecord.TheVariants as line
use Rattle.serve_turns.specs.Engine.{Engine}
use Rattle.geo_latency.specs.declared.tables.Tables.{Tables}
use Rattle.line_server.specs.Leaving.{CameTo, StepLeaves, TurnsInPart, taken_of}
use Rattle.line_server.specs.Standing.{IsBound, IsTurnsOutcome}
use Rattle.line_server.specs.declared.answers.Taken.{Taken}
use Rattle.query_lines.specs.declared.serving.Ports.{Ports}
use Rattle.serve_turns.specs.Stores.{StandsFor, State as Store}
use Rattle.r53_io.specs.Network.{Incoming}
use Rattle.rand_core.specs.Stream.{Stream}
use Rattle.reply_sending.specs.Outcomes.{text_of}
use Rattle.reply_sending.specs.OutcomeRecord.TheVariants as outcome
use Rattle.reply_sending.specs.TurnsRecord.{Turns}
use Rattle.serve_turns.specs.Turning.{Standing, TurnsLeave, first}
use Rattle.serve_turns.specs.declared.serving.TurnsTaken.{TurnsTaken as Answer}
use Rattle.serve_turns.specs.declared.serving.TurnsTaken.TheVariants as answer
use Rattle.serve_turns.specs.ServingOfSessionModel.{Datagram, none}
use Rattle.serve_turns.specs.Steps.{LineSteps, State, Step, Surroundings, after_turns}
use Rattle.serve_turns.specs.Steps.{given_for, replied}
use Rattle.whole_writing.specs.Output.{OutputOf}
use Rattle.whole_writing.specs.declared.output.Output.{Output}
use Rattle.whole_writing.specs.declared.output.Output.TheVariants as output

-- by what was written
pub came : (o : Output) (answer : Taken) → taken_of o ≡ answer → (Steps : Step → Type 0)
    (Part : Option (List Datagram) → Type 0) (P : State → Type 0) (held : List ℕ)
    (before : List Datagram) (out : Option (List ℕ)) (sent : Option (List Datagram))
    → CameTo o Steps P held before out sent
    → StepLeaves answer Steps Part P held before out sent
came o answer is Steps Part P held before out sent its =
    subst (λ (t : Taken). StepLeaves t Steps Part P held before out sent) is (by_output o its)
  where
    by_output : (o : Output) → CameTo o Steps P held before out sent
        → StepLeaves (taken_of o) Steps Part P held before out sent
    by_output output.Whole its = its
    by_output output.Failed its = its

nothing_sent : {X : Type 0} {before : List X} {sent : Option (List X)} → sent ≡ Some before
    → sent ≡ Some (before ++ [])
nothing_sent {before = before} is = is ∙ ap Some (sym (append-nil before))

module _ (around : Surroundings) (ports : Ports) (old : State) (held : List ℕ)
    (before : List Datagram) (out : Option (List ℕ)) (sent : Option (List Datagram))
    (still : sent ≡ Some before) (o : Output) where
  pub already : old.bound ≡ true → OutputOf held out o (text_of outcome.AlreadyBound)
      → CameTo o (LineSteps around (line.Bind ports) old) (IsBound old old.bound) held before
      out sent
  already is was = (
    replied old old.engine (text_of outcome.AlreadyBound),
    inl (is, refl),
    refl,
    was,
    nothing_sent still,
  )

  pub bound : old.bound ≡ false → (given : Ports) → given ≡ given_for around ports
      → OutputOf held out o (text_of (outcome.Bound given))
      → CameTo o (LineSteps around (line.Bind ports) old) (IsBound old true) held before out sent
  bound none given is was = (
    record {
      new = record old { bound = true };
      reply = text_of (outcome.Bound (given_for around ports));
      sent = [];
    },
    inr (none, refl),
    refl,
    subst (λ (p : Ports). OutputOf held out o (text_of (outcome.Bound p))) is was,
    nothing_sent still,
  )

-- ---- turns

-- of tables and words that are those of the session
pub as_told : (told : Answer) (around : Surroundings) (tables : Tables) (n : ℕ) (old : State)
    (words : Stream) (before : List Datagram) (P : Engine → Type 0) (now : Standing)
    → around.tables ≡ tables → old.words ≡ words
    → TurnsLeave told tables before n (first old.engine words) old.arrivals P now
    → TurnsLeave told around.tables before n (first old.engine old.words) old.arrivals P now
as_told told around tables n old words before P now same drawn leaves =
    subst (λ (t : Tables). TurnsLeave told t before n (first old.engine old.words) old.arrivals P now)
    (sym same)
    (subst (λ (s : Stream). TurnsLeave told tables before n (first old.engine s) old.arrivals P now)
    (sym drawn) leaves)

module _ (around : Surroundings) (n : ℕ) (old : State) (held : List ℕ) (before : List Datagram)
    (out : Option (List ℕ)) (store : Store) (network : Option (List Incoming)) (random : Stream)
    (sent : Option (List Datagram)) (o : Output) where
  pub not_bound : old.bound ≡ false → StandsFor old.engine store → network ≡ Some old.arrivals
      → old.words ≡ random → sent ≡ Some before → OutputOf held out o (text_of outcome.NotBound)
      → CameTo o (LineSteps around (line.Serve n) old) (IsTurnsOutcome old.bound store network random)
      held before out sent
  not_bound none stands coming words still was = (
    replied old old.engine (text_of outcome.NotBound),
    inl (none, refl),
    record { stands = stands; still = refl; coming = coming; words = words },
    was,
    nothing_sent still,
  )

  pub served : old.bound ≡ true → (turns : Turns)
      → TurnsLeave (answer.Took turns) around.tables before n (first old.engine old.words)
      old.arrivals (λ after. StandsFor after store)
      (record { words = random; turns = none; coming = network; sent = sent })
      → OutputOf held out o (text_of (outcome.Served turns))
      → CameTo o (LineSteps around (line.Serve n) old) (IsTurnsOutcome old.bound store network random)
      held before out sent
  served is turns (left, new, taken, here, stands) was = (
    after_turns old left new,
    inr (is, left, new, taken, refl),
    record { stands = here; still = refl; coming = stands.coming; words = stands.words },
    subst (λ (t : Turns). OutputOf held out o (text_of (outcome.Served t))) (sym stands.turns) was,
    stands.sent,
  )

  pub part : TurnsLeave answer.Failed around.tables before n (first old.engine old.words)
      old.arrivals (λ after. StandsFor after store)
      (record { words = random; turns = none; coming = network; sent = sent })
      → TurnsInPart around n old before network sent
  part (k, left, new, fewer, taken, here, so, rest) = (k, left, new, fewer, taken, so, rest)
