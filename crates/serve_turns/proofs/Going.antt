-- Stores that stand for more and more reports.
use Rattle.std.proofs.Common.{◌≡◌, List, [], ◌∷◌, ◌++◌, sym, subst, append_assoc}
use Rattle.session_model.specs.Engine.{Engine, ReportSteps}
use Rattle.session_model.specs.ReportedRecord.{Reported}
use Rattle.session_model.specs.ReportedRecord.TheVariants as reported
use Rattle.check_lines.specs.declared.observing.Observation.{Observation}
use Rattle.health_model.specs.Statuses.{Report}
use Rattle.r53_core.specs.Stores.{StandsFor, State as Store}
use Rattle.serve_turns.specs.Turning.{GoesOn}

-- none more
pub stays : (old new : Store) → new ≡ old → GoesOn old new
stays old new same engine stands =
    ([], subst (λ (s : Store). StandsFor engine s) (sym same) stands)

-- some, and then others
pub joined : (old mid new : Store) → GoesOn old mid → GoesOn mid new → GoesOn old new
joined old mid new first second engine stands =
    let one = first engine stands in
    let two = second (record engine { reports = one.0 ++ engine.reports }) one.1 in (
      two.0 ++ one.0,
      subst (λ (l : List Report). StandsFor (record engine { reports = l }) new)
          (sym (append_assoc two.0 one.0 engine.reports)) two.1,
    )

-- a report, or none
pub reported_so : (engine after : Engine) (seen : Observation) (told : Reported) (new : Store)
    → ReportSteps engine seen.id seen.checker seen.pass told after → StandsFor after new
    → (more : List Report) × StandsFor (record engine { reports = more ++ engine.reports }) new
reported_so engine after seen reported.Taken new (endpoint, within, same) stands = (
  record { check = seen.id; checker = seen.checker; pass = seen.pass } ∷ [],
  subst (λ (e : Engine). StandsFor e new) same stands,
)
reported_so engine after seen reported.NoSuchHealthCheck new (none, same) stands =
    ([], subst (λ (e : Engine). StandsFor e new) same stands)
reported_so engine after seen reported.BadChecker new (endpoint, many, same) stands =
    ([], subst (λ (e : Engine). StandsFor e new) same stands)
