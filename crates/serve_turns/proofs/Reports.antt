-- A datagram of the report port.
use Rattle.std.proofs.Common.{◌≡◌, ◌<◌, ℕ, List, ◌∷◌, Bool, true, false, Some, sym, ◌∙◌, subst, refl, inl, inr, arith}
use Rattle.std.specs.Prelude.{if◌then◌else◌}
use Rattle.check_lines.specs.declared.observing.Observation.{Observation}
use Rattle.session_model.specs.Engine.{Engine, IsEndpoint, ReportSteps}
use Rattle.session_model.specs.ReportedRecord.TheVariants as reported
use Rattle.geo_latency.specs.declared.tables.Tables.{Tables}
use Rattle.r53_io.specs.Network.{Incoming, Report}
use Rattle.report_lines.specs.Reports.{report_of}
use Rattle.serve_turns.specs.Turning.{IsReported, Standing, IsAsDefined, TurnLeaves}
use Rattle.serve_turns.specs.declared.turning.Turn.TheVariants as turn
use Rattle.session_model.specs.Serving.{Datagram, IsKnown, TurnsOutcome, TakesTurn, after_report}
use Rattle.session_model.specs.Serving.{reported_too, unknown_too}

some_same : {X : Type 0} {x y : X} → Some x ≡ Some y → x ≡ y
some_same e = cc

module _ (engine after : Engine) (octets : List ℕ) (seen : Observation) (P : Engine → Type 0)
    (is : report_of octets ≡ Some seen) (stands : P after) where
  pub taken : ReportSteps engine seen.id seen.checker seen.pass reported.Taken after
      → IsReported true engine octets P
  taken (endpoint, within, same) = (seen, (is, endpoint), subst P same stands)

  pub no_check : ReportSteps engine seen.id seen.checker seen.pass reported.NoSuchHealthCheck after
      → IsReported false engine octets P
  no_check (none, same) = (
    λ other known. none (subst (λ (s : Observation). IsEndpoint engine.config s.id)
        (some_same (sym known.0 ∙ is)) known.1),
    subst P same stands,
  )

  pub no_checker : ReportSteps engine seen.id seen.checker seen.pass reported.BadChecker after
      → seen.checker < 50 → IsReported false engine octets P
  no_checker (endpoint, many, same) few = absurd (omega (arith, many, few))

-- ---- its turn

module _ (tables : Tables) (before : List Datagram) (old : TurnsOutcome) (arrivals more : List Incoming)
    (octets datagram : List ℕ) (is : datagram ≡ octets) (next : arrivals ≡ Report octets ∷ more)
    (P : Engine → Type 0) (at : Standing) where
  leaves : (new : TurnsOutcome) → TakesTurn tables (Report octets) old new → P new.engine
      → IsAsDefined before new more at → TurnLeaves turn.Taken tables before old arrivals P at
  leaves new turned here stands = (Report octets, more, new, next, turned, here, stands)

  pub turned : (counted : Bool) → IsReported counted old.engine datagram P
      → IsAsDefined before old more
      (record at { turns = old.turns })
      → at.turns ≡ (if counted then reported_too old.turns else unknown_too old.turns)
      → TurnLeaves turn.Taken tables before old arrivals P at
  turned true (seen, known, here) stands counts =
      leaves (after_report seen old)
      (inl (
        seen,
        subst (λ (l : List ℕ). IsKnown old.engine l seen) is known,
        refl,
      ))
      here
      (record {
        words = stands.words;
        turns = sym counts;
        coming = stands.coming;
        sent = stands.sent;
      })
  turned false (none, here) stands counts =
      leaves (record old { turns = unknown_too old.turns })
      (inr (
        λ seen known. none seen (subst (λ (l : List ℕ). IsKnown old.engine l seen) (sym is) known),
        refl,
      ))
      here
      (record {
        words = stands.words;
        turns = sym counts;
        coming = stands.coming;
        sent = stands.sent;
      })
