-- Each step leaves one store.
use Rattle.std.specs.Prelude.{◌≡◌, ℕ, Bool, Result}
use Rattle.command_octets.specs.declared.commands.Command.{Command}
use Rattle.config_model.specs.declared.refusals.Made.{Made}
use Rattle.config_model.specs.declared.refusals.Refusal.{Refusal}
use Rattle.engine_model.specs.Compacting.{CompactionSteps}
use Rattle.engine_model.specs.Engine.{CommandSteps, Engine, ReportSteps}
use Rattle.engine_model.specs.declared.answers.Compacted.{Compacted}
use Rattle.engine_model.specs.declared.answers.Reported.{Reported}

abbrev pub OneCommandStep : Type 0
OneCommandStep = (old new other : Engine) (given : Command) (outcome told : Result Made Refusal)
    → CommandSteps old given outcome new → CommandSteps old given told other
    → (outcome ≡ told) × (new ≡ other)

abbrev pub OneReportStep : Type 0
OneReportStep = (old new other : Engine) (id checker : ℕ) (pass : Bool) (outcome told : Reported)
    → ReportSteps old id checker pass outcome new → ReportSteps old id checker pass told other
    → (outcome ≡ told) × (new ≡ other)

abbrev pub OneCompactionStep : Type 0
OneCompactionStep = (old new other : Engine) (pieces : ℕ) (outcome told : Compacted)
    → CompactionSteps old pieces outcome new → CompactionSteps old pieces told other
    → (outcome ≡ told) × (new ≡ other)
