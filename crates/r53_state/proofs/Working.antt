-- What a command asks for, by the calls of its kind.
use Rattle.std.proofs.Common.{◌≡◌, [], ◌∷◌, sym, refl, subst, arith, inr}
use Rattle.std.proofs.Common.{Option, None, Some}
use Rattle.std.specs.Prelude.{option_map, Result, Ok, Err, ⊤}
use Rattle.check_model.specs.Commands.{checks_after, refusal_of}
use Rattle.check_model.specs.declared.checks.CheckCommand.{CheckCommand}
use Rattle.zone_commands.specs.CommandRecord.{Command}
use Rattle.zone_commands.specs.CommandRecord.TheVariants as command
use Rattle.check_commands.specs.Applying.{Outcome}
use Rattle.check_commands.specs.Configs.{Config}
use Rattle.check_commands.specs.Others.{in_use, made_check}
use Rattle.check_commands.specs.Telling.{first_of, of_check, unless}
use Rattle.check_commands.specs.MadeRecord.{Made}
use Rattle.check_commands.specs.RefusalRecord.{Refusal}
use Rattle.zone_commands.specs.Configured.{TellsEdit, TellsEditOnly}
use Rattle.r53_state.specs.States.{IsAccepted, IsOnChecks}
use Rattle.r53_state.specs.Steps.{TellsWork, some_edit}
use Rattle.zone_commands.specs.Tables.{Table}
use Rattle.zone_commands.specs.ZoneEditRecord.{ZoneEdit}

-- ---- an edit of the zones

module _ (config : Config) (table : Table) (given kind : Command) (is : given ≡ kind)
    (other : IsOnChecks kind → ⊥) where
  some_told : (edit : Result ZoneEdit Refusal) → TellsEdit config kind table edit
      → TellsWork config kind table (some_edit edit)
  some_told (Ok made) told = (other, told)
  some_told (Err why) told = told

  only_told : (edit : Result ZoneEdit Refusal) → TellsEditOnly config kind table edit
      → TellsWork config kind table (some_edit edit)
  only_told (Ok made) told = (other, told)
  only_told (Err why) told = inr told

  found_so : (work found : Result (Option ZoneEdit) Refusal) → found ≡ work
      → TellsWork config kind table work → TellsWork config given table found
  found_so work found same told =
      subst (λ (c : Command). TellsWork config c table found) (sym is)
      (subst (λ (r : Result (Option ZoneEdit) Refusal). TellsWork config kind table r) (sym same)
      told)

  pub some_for : (edit : Result ZoneEdit Refusal) (found : Result (Option ZoneEdit) Refusal)
      → found ≡ some_edit edit → TellsEdit config kind table edit
      → TellsWork config given table found
  some_for edit found same told = found_so (some_edit edit) found same (some_told edit told)

  pub only_for : (edit : Result ZoneEdit Refusal) (found : Result (Option ZoneEdit) Refusal)
      → found ≡ some_edit edit → TellsEditOnly config kind table edit
      → TellsWork config given table found
  only_for edit found same told = found_so (some_edit edit) found same (only_told edit told)

-- ---- a command on health checks

module _ (config : Config) (health : CheckCommand) where
  abbrev told : Option Refusal
  told = first_of (option_map of_check (refusal_of config.checks health)
      ∷ in_use config.zones health ∷ [])

  abbrev after : Config × Made
  after = (
    record config { checks = checks_after config.checks health },
    made_check config.checks health,
  )

  abbrev passed : ⊤ → Result ⊤ Refusal
  passed x = Ok x

  abbrev judged : Option Refusal → Result ⊤ Refusal
  judged t = unless t tt

  abbrev made_so : Outcome
  made_so = Ok after

  abbrev outcome : Option Refusal → Outcome
  outcome t = unless t after

  accepted_by : (t : Option Refusal) (x : ⊤) → passed x ≡ judged t → made_so ≡ outcome t
  accepted_by None x e = refl
  accepted_by (Some why) x e = absurd (grind (arith, e))

  pub accepted_for : (given : Command) → given ≡ command.Health health → (x : ⊤)
      → passed x ≡ judged told → IsOnChecks given × IsAccepted config given
  accepted_for given is x e =
      subst (λ (c : Command). IsOnChecks c × IsAccepted config c) (sym is)
      (tt, (after.0, after.1, accepted_by told x e))
