-- What a command that is ready makes of a configuration.
use Rattle.std.proofs.Common.{◌≡◌, ℕ, ◌<◌, List, ap, ◌∙◌, sym, refl, subst, arith}
use Rattle.std.proofs.Common.{inl, inr}
use Rattle.std.proofs.lemmas.Bool.{cases_lt}
use Rattle.std.specs.Prelude.{Ok}
use Rattle.check_model.specs.Checks.{Checks}
use Rattle.cidr_commands.specs.Stored.{Stored}
use Rattle.zone_commands.specs.CommandRecord.{Command}
use Rattle.zone_commands.specs.CommandRecord.TheVariants as command
use Rattle.zone_commands.specs.Laws.{hosted_in}
use Rattle.check_commands.specs.Applying.{Decides}
use Rattle.check_commands.specs.Configs.{Config}
use Rattle.check_commands.specs.Laws.{IsBounded}
use Rattle.check_commands.specs.Others.{made_check}
use Rattle.check_commands.specs.Sound.{Sound}
use Rattle.check_commands.specs.MadeRecord.{Made}
use Rattle.zone_commands.specs.Configured.{IsEditFor, config_of}
use Rattle.health_check.specs.Stored.{Kept}
use Rattle.r53_state.specs.States.{IsAccepted, IsOnChecks, State, config_in}
use Rattle.r53_state.specs.Steps.{CanApply, BeginsZone, checks_of, made_of, next_after}
use Rattle.r53_state.proofs.Decided.{check_becomes, decided, not_refused}
use Rattle.zone_commands.specs.Zones.{AreZones}
use Rattle.zone_model.specs.Hosted.{HostedZone}
use Rattle.zone_commands.specs.Edits.{Edits, collections_after}
use Rattle.zone_commands.specs.Tables.{Table}
use Rattle.zone_commands.specs.ZoneEditRecord.{ZoneEdit}
use Rattle.zone_commands.specs.DeltaRecord.{Delta}

-- a configuration is told by its four parts
by_parts : (config : Config) (zones : List HostedZone) (next : ℕ) (checks : Checks)
    (collections : Stored) → zones ≡ config.zones → next ≡ config.next_zone
    → checks ≡ config.checks → collections ≡ config.collections
    → record { zones = zones; next_zone = next; checks = checks; collections = collections }
    ≡ config
by_parts config zones next checks collections a b c d =
    ap (λ zs. record {
      zones = zs;
      next_zone = next;
      checks = checks;
      collections = collections;
    }) a
    ∙ (ap (λ n. record {
      zones = config.zones;
      next_zone = n;
      checks = checks;
      collections = collections;
    }) b
    ∙ (ap (λ cs. record {
      zones = config.zones;
      next_zone = config.next_zone;
      checks = cs;
      collections = collections;
    }) c
    ∙ ap (λ s. record {
      zones = config.zones;
      next_zone = config.next_zone;
      checks = config.checks;
      collections = s;
    }) d))

-- other commands leave the checks
checks_stay : (checks : Checks) (given : Command) → (IsOnChecks given → ⊥)
    → checks_of checks given ≡ checks
checks_stay checks (command.CreateZone name servers) other = refl
checks_stay checks (command.DeleteZone id) other = refl
checks_stay checks (command.Change batch) other = refl
checks_stay checks (command.Health health) other = absurd (other tt)
checks_stay checks (command.Cidr cidr) other = refl

module _ (table now : Table) (checks : Checks) (next : ℕ) (given : Command) where
  abbrev config : Config
  config = config_of table checks next

  -- an edit that is made, and the next number
  edited : (made : ZoneEdit) (told : Delta) → (IsOnChecks given → ⊥)
      → IsEditFor config given table made → AreZones table.zones → AreZones now.zones
      → Edits table.zones made now.zones told
      → now.collections ≡ collections_after made table.collections
      → Decides config given
      (Ok (config_of now checks (next_after next given), made_of config given))
  edited made told other (after, what, decides, leads, about) are are_now edits collections =
      let is = decided config after what given decides in
      let same : config_of now checks (next_after next given) ≡ after =
      by_parts after (hosted_in now.zones) (next_after next given) checks now.collections
      (leads.zones now.zones told are are_now edits) (sym is.next)
      (sym (is.checks ∙ checks_stay checks given other)) (collections ∙ leads.collections) in
      subst (λ (c : Config). Decides config given (Ok (c, made_of config given))) (sym same)
      (subst (λ (m : Made). Decides config given (Ok (after, m))) is.made decides)

  -- a command on health checks that is made
  pub applied : IsOnChecks given → IsAccepted config given → (checks_now : Checks)
      → checks_now ≡ checks_of checks given
      → Decides config given
      (Ok (config_of table checks_now (next_after next given), made_of config given))
  applied = by given
    where
      by : (given : Command) → IsOnChecks given → IsAccepted config given → (checks_now : Checks)
          → checks_now ≡ checks_of checks given
          → Decides config given
          (Ok (config_of table checks_now (next_after next given), made_of config given))
      by (command.CreateZone name servers) on = absurd on
      by (command.DeleteZone id) on = absurd on
      by (command.Change batch) on = absurd on
      by (command.Cidr cidr) on = absurd on
      by (command.Health health) on = λ accepted checks_now e.
          subst (λ (cs : Checks). Decides config (command.Health health)
          (Ok (config_of table cs next, made_check checks health))) (sym e)
          (check_becomes config health accepted.0 accepted.1 accepted.2)

  -- the table of checks can make it
  pub can_apply : IsBounded given → IsAccepted config given → CanApply checks given
  can_apply = by given
    where
      by : (given : Command) → IsBounded given → IsAccepted config given → CanApply checks given
      by (command.CreateZone name servers) bounded accepted = tt
      by (command.DeleteZone id) bounded accepted = tt
      by (command.Change batch) bounded accepted = tt
      by (command.Cidr cidr) bounded accepted = tt
      by (command.Health health) bounded accepted =
          (not_refused config health accepted.0 accepted.1 accepted.2, bounded)

  -- and there is a number for another zone, where one comes
  pub counts : Sound config → IsAccepted config given → BeginsZone given → next < 4294967295
  counts sound accepted opens =
      let last = (decided config accepted.0 accepted.1 given accepted.2).numbered opens in
      let to = sound.to in
      elim (cases_lt next 4294967295) [
        | inl lt ↦ lt
        | inr ge ↦ absurd (last (omega (arith, to, ge)))
      ]

-- ---- a state

module _ (before : State) (table now : Table) (checks : Kept) (next next_now : ℕ)
    (told told_now : Delta)
    (is : record { table = table; checks = checks; next_zone = next; told = told } ≡ before)
    (given : Command) where
  -- an edit that is made, with the next number and what is told to be made
  pub edit_installed : (IsOnChecks given → ⊥) → (made : ZoneEdit)
      → IsEditFor (config_in before) given before.table made → AreZones table.zones
      → AreZones now.zones → Edits table.zones made now.zones told_now
      → now.collections ≡ collections_after made table.collections
      → next_now ≡ next_after next given → (what : Made)
      → what ≡ made_of (config_of table checks.checks next) given
      → Decides (config_in before) given (Ok (config_of now checks.checks next_now, what))
  edit_installed other made leads are are_now edits collections next_is what what_is =
      subst (λ (s : State). Decides (config_in s) given
      (Ok (config_of now checks.checks next_now, what))) is
      (subst (λ (n : ℕ). Decides (config_of table checks.checks next) given
      (Ok (config_of now checks.checks n, what))) (sym next_is)
      (subst (λ (m : Made). Decides (config_of table checks.checks next) given
      (Ok (config_of now checks.checks (next_after next given), m))) (sym what_is)
      (edited table now checks.checks next given made told_now other
      (subst (λ (s : State). IsEditFor (config_in s) given s.table made) (sym is) leads) are
      are_now edits collections)))

  -- there is a number for another zone, where one comes
  pub numbered : Sound (config_in before) → (made : ZoneEdit)
      → IsEditFor (config_in before) given before.table made → BeginsZone given
      → next < 4294967295
  numbered sound made (after, what, decides, leads, about) opens =
      let less = counts before.table before.table before.checks.checks before.next_zone given sound
      (after, what, decides) opens in
      subst (λ (s : State). s.next_zone < 4294967295 → next < 4294967295) is (λ lt. lt) less
