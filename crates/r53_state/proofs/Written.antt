-- What is written of a sound configuration is a snapshot of it.
use Rattle.std.proofs.Common.{◌≡◌, ◌∙◌, ℕ, List, ap, subst, sym}
use Rattle.std.specs.Prelude.{IfOk, Result, Ok, Err}
use Rattle.check_commands.specs.Configs.{Config}
use Rattle.check_commands.specs.Sound.{Sound}
use Rattle.config_reading.specs.Reading.{IsOfSound}
use Rattle.config_reading.specs.Laws.{SoundHaveSnapshots}
use Rattle.config_reading.specs.Octets.{IsSnapshot, snapshot}

module _ (law : SoundHaveSnapshots) (config other : Config) (sound : Sound config)
    (same : other ≡ config) where
  pub of_it : {A E : Type 0} (written : Result A E) (items : A → List ℕ)
      → IfOk written (λ octets. items octets ≡ snapshot other)
      → IfOk written (λ octets. IsOfSound (items octets) config)
  of_it (Ok octets) items is = record {
    snapshot =
        subst (λ these. IsSnapshot these config) (sym (is ∙ ap snapshot same)) (law config sound);
    sound = sound;
  }
  of_it (Err why) items is = is
