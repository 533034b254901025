-- What each outcome is told as (FORMATS, Replies).
use Rattle.std.specs.Prelude.{ℕ, List, [], ◌∷◌, codes}
use Rattle.serde_json.specs.Data.{Data, boolean}
use Rattle.line_faults.specs.declared.member.Member.TheVariants as m
use Rattle.reply_model.specs.Errors.{error, line_error, refusal_error}
use Rattle.reply_model.specs.Json.{check_text, collection_text, count, done, field, line_of}
use Rattle.reply_model.specs.Json.{name_text, object_of, zone_text}
use Rattle.reply_model.specs.declared.outcomes.Outcome.{Outcome}
use Rattle.reply_model.specs.declared.outcomes.Outcome.TheVariants as outcome

unfoldable pub reply_of : Outcome → Data
reply_of (outcome.Done line) = done line []
reply_of (outcome.ZoneMade id name) =
    done m.CreateHostedZone ((
      codes "HostedZone",
      object_of (field m.Id (zone_text id) ∷ field m.Name (name_text name) ∷ []),
    ) ∷ [])
reply_of (outcome.CheckMade id) =
    done m.CreateHealthCheck ((
      codes "HealthCheck",
      object_of (field m.Id (check_text id) ∷ []),
    ) ∷ [])
reply_of (outcome.CollectionMade id) =
    done m.CreateCidrCollection ((
      codes "Collection",
      object_of (field m.Id (collection_text id) ∷ []),
    ) ∷ [])
reply_of (outcome.Status healthy passing) =
    done m.GetHealthCheckStatus
    ((codes "Healthy", boolean healthy) ∷ (codes "Passing", count passing) ∷ [])
reply_of (outcome.Bound ports) =
    done m.Bind
    (field m.QueryPort (count ports.queries) ∷ field m.ReportPort (count ports.reports) ∷ [])
reply_of (outcome.Served turns) =
    done m.Serve
    ((codes "Answered", count turns.answered)
    ∷ (codes "Quiet", count turns.quiet)
    ∷ (codes "Reports", count turns.reports)
    ∷ (codes "Silent", count turns.silent)
    ∷ (codes "Turns", count turns.turns)
    ∷ (codes "Unknown", count turns.unknown)
    ∷ [])
reply_of (outcome.Left octets) = done m.Compact ((codes "Left", count octets) ∷ [])
reply_of (outcome.Compacted generation) =
    done m.Compact ((codes "Generation", count generation) ∷ [])
reply_of (outcome.Refused why) = refusal_error why
reply_of (outcome.NotRead why) = line_error why
reply_of outcome.LineTooLong = error (codes "LineTooLong") 32 []
reply_of outcome.BadChecker = error (codes "BadChecker") 33 []
reply_of outcome.NotBound = error (codes "NotBound") 34 []
reply_of outcome.AlreadyBound = error (codes "AlreadyBound") 35 []
reply_of outcome.GenerationsEnded = error (codes "GenerationsEnded") 36 []

-- the line of an outcome
abbrev pub text_of : Outcome → List ℕ
text_of outcome = line_of (reply_of outcome)
