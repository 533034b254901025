-- At most one command changes the configuration by a line.
use Rattle.std.proofs.Common.{◌≡◌, ◌⊎◌, inl, inr, ℕ, Bool, List, Result, Ok, ap, subst, sym}
use Rattle.line_bounds.specs.CommandRecord.{Command}
use Rattle.line_bounds.specs.Configs.{Config}
use Rattle.line_server.specs.Leaving.{StepOrNone}
use Rattle.line_server.specs.Replying.{Commanded, Compacts, Observed}
use Rattle.list_sending.specs.Applying.{Decides}
use Rattle.list_sending.specs.Engine.{CommandSteps, Engine, ReportSteps}
use Rattle.list_sending.specs.MadeRecord.{Made}
use Rattle.list_sending.specs.RefusalRecord.{Refusal}
use Rattle.list_sending.specs.ReportedRecord.{Reported}
use Rattle.list_sending.specs.ReportedRecord.TheVariants as reported
use Rattle.check_lines.specs.declared.observing.Observation.{Observation}
use Rattle.session_server.specs.Keeping.{IsOneMore}

abbrev config_of : Engine → Config
config_of engine = engine.config

-- ---- a command

stepped : (given : Command) (came : Result Made Refusal) (old after : Engine)
    → CommandSteps old given came after → IsOneMore old.config after.config
stepped given came old after (inl (why, other, decides, is, same)) = inl (ap config_of same)
stepped given came old after (inr (now, (what, decides, inl (full, fits, is, same)))) =
    inl (ap config_of same)
stepped given came old after (inr (now, (what, decides, inr (fits, is, same)))) =
    inr (
      given,
      what,
      subst (λ (c : Config). Decides old.config given (Ok (c, what))) (sym (ap config_of same))
          decides,
    )

pub commanded : (given : Command) (old after : Engine) (reply : List ℕ)
    → Commanded given old after reply → IsOneMore old.config after.config
commanded given old after reply (came, steps, text) = stepped given came old after steps

pub commanded_or_none : (given : Command) (old after : Engine)
    → StepOrNone (Commanded given) old after → IsOneMore old.config after.config
commanded_or_none given old after (inl (journal, same)) = inl (ap config_of same)
commanded_or_none given old after (inr (reply, its)) = commanded given old after reply its

-- ---- a compaction

pub compacts : (pieces : ℕ) (old after : Engine) (reply : List ℕ) → Compacts pieces old after reply
    → IsOneMore old.config after.config
compacts pieces old after reply (came, inl (last, is, same), text) = inl (ap config_of same)
compacts pieces old after reply (came, inr (more, same, is), text) = inl (ap config_of same)

pub compacts_or_none : (pieces : ℕ) (old after : Engine) → StepOrNone (Compacts pieces) old after
    → IsOneMore old.config after.config
compacts_or_none pieces old after (inl (journal, same)) = inl (ap config_of same)
compacts_or_none pieces old after (inr (reply, its)) = compacts pieces old after reply its

-- ---- a report

of_report : (id checker : ℕ) (pass : Bool) (came : Reported) (old after : Engine)
    → ReportSteps old id checker pass came after → after.config ≡ old.config
of_report id checker pass reported.Taken old after (at, few, same) = ap config_of same
of_report id checker pass reported.NoSuchHealthCheck old after (none, same) = ap config_of same
of_report id checker pass reported.BadChecker old after (at, many, same) = ap config_of same

pub observed : (seen : Observation) (old after : Engine) (reply : List ℕ)
    → Observed seen old after reply → IsOneMore old.config after.config
observed seen old after reply (came, steps, text) =
    inl (of_report seen.id seen.checker seen.pass came old after steps)
