-- What comes of each kind of line, from what the store tells of it.
use Rattle.std.proofs.Common.{◌≡◌, ◌∙◌, ◌⊎◌, inl, inr, ℕ, List, Option, Some, None, Result, Ok, Err, refl, subst, sym}
use Rattle.batch_json.specs.declared.asking.Line.{Line}
use Rattle.batch_json.specs.declared.asking.Line.TheVariants as line
use Rattle.check_lines.specs.declared.observing.Observation.{Observation}
use Rattle.command_octets.specs.declared.commands.Command.{Command}
use Rattle.config_model.specs.declared.refusals.Made.{Made}
use Rattle.config_model.specs.declared.refusals.Refusal.{Refusal}
use Rattle.config_model.specs.declared.refusals.Refusal.TheVariants as refusal
use Rattle.drill_run.specs.Counting.{Does, OrMemory, Progress, HasProgress, Halts, command_counted, reply_counted, report_counted}
use Rattle.drill_run.specs.Leaving.{IfOn, IfHalted, IsHalf}
use Rattle.drill_run.specs.declared.counting.Tally.{Tally}
use Rattle.drill_run.specs.declared.taking.Went.{Went}
use Rattle.engine_model.specs.Engine.{Engine, QueryGives, ReportSteps}
use Rattle.engine_model.specs.declared.answers.Compacted.{Compacted}
use Rattle.engine_model.specs.declared.answers.Compacted.TheVariants as compacted
use Rattle.engine_model.specs.declared.answers.Reported.{Reported}
use Rattle.geo_latency.specs.declared.tables.Tables.{Tables}
use Rattle.line_server.specs.Asking.{CommandAsksDisk, CompactionAsksDisk}
use Rattle.line_server.specs.Leaving.{Halted}
use Rattle.line_server.specs.Replying.{Commanded, Compacts}
use Rattle.query_lines.specs.declared.queries.QueryLine.{QueryLine}
use Rattle.r53_core.specs.Stores.{CommandGives, CompactionGives, StandsFor, State as Store}

-- where a drill stands behind a line, by what was counted of it
module _ (tables : Tables) (old : Progress) (store : Store) (tally : Tally)
    (at : HasProgress old store tally) where
  -- a line that changed nothing
  pub still : (Steps : Progress → Progress → Type 0) (new : Store) (after : Tally)
      → StandsFor old.engine new → after ≡ tally
      → (s : Progress) × OrMemory Steps old s × HasProgress s new after
  still Steps new after stands same =
      (old, inl refl, record { stands = stands; counted = at.counted ∙ sym same })

  pub commanded : (given : Command) (came : Result Made Refusal) (new : Store) (after : Tally)
      → (came ≡ Err refusal.DiskFault → ⊥) → after ≡ command_counted given came tally
      → CommandGives old.engine given came new
      → (s : Progress) × OrMemory (Does tables (line.Control given)) old s × HasProgress s new after
  commanded given came new after whole counted (inl (is, stands)) =
      still (Does tables (line.Control given)) new after stands
      (counted ∙ subst (λ (r : Result Made Refusal). command_counted given r tally ≡ tally) (sym is) refl)
  commanded given came new after whole counted (inr (inl (is, accepted, fitting, stands))) =
      absurd (whole is)
  commanded given came new after whole counted (inr (inr (engine, steps, stands))) = (
    record { engine = engine; tally = after },
    inr (
      came,
      steps,
      counted ∙ subst (λ (t : Tally). command_counted given came t ≡ command_counted given came old.tally)
          at.counted refl,
    ),
    record { stands = stands; counted = refl },
  )

  pub compacts : (pieces : ℕ) (came : Compacted) (new : Store)
      → (came ≡ compacted.DiskFault → ⊥) → CompactionGives old.engine pieces came new
      → (s : Progress) × OrMemory (Does tables (line.Compact pieces)) old s × HasProgress s new tally
  compacts pieces came new whole (inl (is, none, stands)) =
      still (Does tables (line.Compact pieces)) new tally stands refl
  compacts pieces came new whole (inr (inl (is, more, dropped))) = absurd (whole is)
  compacts pieces came new whole (inr (inr (engine, steps, stands))) = (
    record { engine = engine; tally = old.tally },
    inr (came, steps, refl),
    record { stands = stands; counted = at.counted },
  )

  pub observed : (seen : Observation) (came : Reported) (engine : Engine) (new : Store) (after : Tally)
      → ReportSteps old.engine seen.id seen.checker seen.pass came engine → StandsFor engine new
      → after ≡ report_counted came tally
      → (s : Progress) × Does tables (line.Observe seen) old s × HasProgress s new after
  observed seen came engine new after steps stands counted = (
    record { engine = engine; tally = after },
    (
      came,
      steps,
      counted ∙ subst (λ (t : Tally). report_counted came t ≡ report_counted came old.tally)
          at.counted refl,
    ),
    record { stands = stands; counted = refl },
  )

  pub answered : (asked : QueryLine) (answer : Option (List ℕ)) (new : Store) (after : Tally)
      → QueryGives old.engine tables (record { peer = asked.address; words = asked.words })
      asked.packet answer
      → StandsFor old.engine new → after ≡ reply_counted answer tally
      → (s : Progress) × OrMemory (Does tables (line.Query asked)) old s × HasProgress s new after
  answered asked answer new after gives stands counted = (
    record { engine = old.engine; tally = reply_counted answer old.tally },
    inr (answer, gives, refl),
    record {
      stands = stands;
      counted = subst (λ (t : Tally). reply_counted answer t ≡ reply_counted answer tally)
          (sym at.counted) refl ∙ sym counted;
    },
  )

-- the same, or it was too long to be counted
module _ (tables : Tables) (old : Progress) (store : Store) (tally : Tally)
    (at : HasProgress old store tally) where
  pub answered_or_not : (asked : QueryLine) (answer : Option (List ℕ)) (new : Store) (after : Tally)
      → QueryGives old.engine tables (record { peer = asked.address; words = asked.words })
      asked.packet answer
      → StandsFor old.engine new → (after ≡ tally) ⊎ (after ≡ reply_counted answer tally)
      → (s : Progress) × OrMemory (Does tables (line.Query asked)) old s × HasProgress s new after
  answered_or_not asked answer new after gives stands (inl same) =
      still tables old store tally at (Does tables (line.Query asked)) new after stands same
  answered_or_not asked answer new after gives stands (inr counted) =
      answered tables old store tally at asked answer new after gives stands counted

-- ---- where a disk failed

module _ {D : Type 0} (images : D → List ℕ → Type 0) (a b : D) (tables : Tables) (old : Progress)
  where
    pub half_commanded : (given : Command) → CommandAsksDisk given old.engine
        → Halted images a b (Commanded given) old.engine
        → IsHalf images a b (Halts tables (line.Control given)) old
    half_commanded given asks (engine, reply, (came, steps, is), opens) = (
      record { engine = engine; tally = command_counted given came old.tally },
      (asks, (came, steps, refl)),
      opens,
    )

    pub half_compacted : (pieces : ℕ) → CompactionAsksDisk old.engine
        → Halted images a b (Compacts pieces) old.engine
        → IsHalf images a b (Halts tables (line.Compact pieces)) old
    half_compacted pieces asks (engine, reply, (came, steps, is), opens) =
        (record { engine = engine; tally = old.tally }, (asks, (came, steps, refl)), opens)

-- ---- what was asked

module _ (tables : Tables) (asked same : Line) (is : asked ≡ same) (w : Went) (old : Progress) where
  pub asked_so : (store : Store) (tally : Tally)
      → IfOn w ((new : Progress) × OrMemory (Does tables same) old new × HasProgress new store tally)
      → IfOn w ((new : Progress) × OrMemory (Does tables asked) old new × HasProgress new store tally)
  asked_so store tally = subst (λ (l : Line). IfOn w ((new : Progress)
      × OrMemory (Does tables l) old new × HasProgress new store tally)) (sym is)

  pub half_asked : {D : Type 0} (images : D → List ℕ → Type 0) (a b : D)
      → IfHalted w (IsHalf images a b (Halts tables same) old)
      → IfHalted w (IsHalf images a b (Halts tables asked) old)
  half_asked images a b = subst (λ (l : Line). IfHalted w (IsHalf images a b (Halts tables l) old))
      (sym is)
