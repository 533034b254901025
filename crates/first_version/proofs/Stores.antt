-- A configuration of the first version is the base of a store.
use Rattle.std.proofs.Common.{◌≡◌, ◌∙◌, ℕ, List, [], ◌∷◌, ap, sym, refl, subst, inl}
use Rattle.std.specs.Prelude.{Contains}
use Rattle.std.specs.List.{AllByRecursion}
use Rattle.check_model.proofs.Members.{all_at, all_from}
use Rattle.check_model.proofs.Told.{one_of_id}
use Rattle.check_model.specs.Checks.{IdsRise}
use Rattle.check_model.specs.declared.checks.Check.{Check}
use Rattle.check_model.specs.declared.checks.Check.TheVariants.{Endpoint, Calculated}
use Rattle.check_octets.specs.Octets.{disabled_of}
use Rattle.command_octets.specs.declared.commands.Command.{Command}
use Rattle.config_model.specs.Applying.{AppliesAll}
use Rattle.config_model.specs.Configs.{Config, empty}
use Rattle.config_model.specs.Laws.{EmptyIsSound, IsBounded, KeepsSound}
use Rattle.config_model.specs.Sound.{Sound}
use Rattle.first_version.specs.Laws.{EmptyIsFormer, FormerStoresOpen, FormerVersionStays}
use Rattle.first_version.specs.Rules.{IsFormerConfig, is_disabled}
use Rattle.snapshot_octets.specs.Laws.{SoundHaveSnapshots}
use Rattle.snapshot_octets.specs.Octets.{HasSnapshot, IsHeldCheck}

-- commands one after another keep a configuration sound
all_keep : KeepsSound → (config : Config) (commands : List Command) (after : Config) → Sound config
    → AllByRecursion IsBounded commands → AppliesAll config commands after → Sound after
all_keep keeps config [] after sound bounded e = subst Sound (sym e) sound
all_keep keeps config (given ∷ commands) after sound bounded (middle, what, decides, rest) =
    all_keep keeps middle commands after
    (keeps config middle given what sound bounded.0 decides) bounded.1 rest

same_flag : (check : Check) → disabled_of check ≡ is_disabled check
same_flag (Endpoint threshold inverted disabled) = refl
same_flag (Calculated threshold inverted disabled children) = refl

-- the checks as the first version tells them
module _ (version : ℕ) (config : Config) (rise : IdsRise config.checks.list)
    (are : IsFormerConfig config) (each : AllByRecursion (IsHeldCheck version) config.checks.list)
  where
    held_first : (held : ℕ × Check) → Contains config.checks.list held → IsHeldCheck 1 held
    held_first held there =
        let spelled = all_at (IsHeldCheck version) config.checks.list held each there in
        let enabled = are.checks.enabled held.0 held.1
        (one_of_id config.checks.list held rise there) in
        record { bounded = spelled.bounded; told = λ first. same_flag held.1 ∙ enabled }

    all_first : AllByRecursion (IsHeldCheck 1) config.checks.list
    all_first = all_from (IsHeldCheck 1) config.checks.list held_first

first_snapshot : SoundHaveSnapshots → (config : Config) → Sound config → IsFormerConfig config
    → HasSnapshot 1 config
first_snapshot written config sound are =
    let today = written config sound in
    record {
      known = inl refl;
      next = ap (λ c. c.next) are.collections;
      checks = record {
        count = today.has.checks.count;
        each = all_first today.version config sound.checks.rising are today.has.checks.each;
      };
      collections = ap (λ c. c.list) are.collections;
      zones = today.has.zones;
    }

pub stores_open : FormerVersionStays → EmptyIsFormer → KeepsSound → EmptyIsSound → SoundHaveSnapshots
    → FormerStoresOpen
stores_open stays first keeps sound written after commands bounded e =
    let reached = stays empty after commands first e in
    let after_is = all_keep keeps empty commands after sound bounded reached.0 in
    (after_is, first_snapshot written after after_is reached.1)
