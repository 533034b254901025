-- Commands that are ready stay so where a configuration stays as it is.
use Rattle.std.proofs.Common.{◌≡◌, ◌≤◌, ℕ, List, ap, ◌∙◌, refl, sym, subst, arith}
use Rattle.std.proofs.Common.{Option, None, Some}
use Rattle.std.specs.Prelude.{Ok}
use Rattle.check_model.specs.Checks.{Checks}
use Rattle.cidr_commands.specs.Stored.{Stored}
use Rattle.zone_commands.specs.CommandRecord.{Command}
use Rattle.zone_commands.specs.Laws.{hosted_in}
use Rattle.check_commands.specs.Applying.{Decides}
use Rattle.check_commands.specs.Configs.{Config}
use Rattle.check_commands.specs.Laws.{IsBounded}
use Rattle.zone_commands.specs.Configured.{IsEditFor, IsLeast, zone_asked}
use Rattle.health_check.specs.Stored.{Kept}
use Rattle.r53_state.specs.States.{IsAccepted, IsReady, IsWorkReady, State, StayReady}
use Rattle.r53_state.specs.States.{IsOnChecks, config_in}
use Rattle.zone_commands.specs.Zones.{AreZones, Zone}
use Rattle.zone_commands.specs.Edits.{Edits, IsAllowed, IsReady as IsEditReady, Prepared as ReadyEdit}
use Rattle.zone_commands.specs.Edits.{collections_after, zone_of}
use Rattle.zone_commands.specs.Tables.{Table}
use Rattle.zone_commands.specs.ZoneEditRecord.{ZoneEdit}
use Rattle.zone_commands.specs.DeltaRecord.{Delta}

module _ (before after : State) (zones : after.table.zones ≡ before.table.zones)
    (collections : after.table.collections ≡ before.table.collections)
    (checks : after.checks.checks ≡ before.checks.checks)
    (next : after.next_zone ≡ before.next_zone) where
  pub same_config : config_in after ≡ config_in before
  same_config =
      ap (λ (zs : List Zone). record {
        zones = hosted_in zs;
        next_zone = after.next_zone;
        checks = after.checks.checks;
        collections = after.table.collections;
      }) zones
      ∙ (ap (λ (n : ℕ). record {
        zones = hosted_in before.table.zones;
        next_zone = n;
        checks = after.checks.checks;
        collections = after.table.collections;
      }) next
      ∙ (ap (λ (cs : Checks). record {
        zones = hosted_in before.table.zones;
        next_zone = before.next_zone;
        checks = cs;
        collections = after.table.collections;
      }) checks
      ∙ ap (λ (s : Stored). record {
        zones = hosted_in before.table.zones;
        next_zone = before.next_zone;
        checks = before.checks.checks;
        collections = s;
      }) collections))

  pub edit_stays : (given : Command) (made : ZoneEdit)
      → IsEditFor (config_in before) given before.table made
      → IsEditFor (config_in after) given after.table made
  edit_stays given made (now, what, decides, leads, about) = (
    now,
    what,
    subst (λ (c : Config). Decides c given (Ok (now, what))) (sym same_config) decides,
    record {
      allowed = subst (λ (zs : List Zone). IsAllowed zs made) (sym zones) leads.allowed;
      zones = λ zs told are are_after edits.
          leads.zones zs told (subst AreZones zones are) are_after
          (subst (λ (old : List Zone). Edits old made zs told) zones edits);
      collections = ap (collections_after made) collections ∙ leads.collections;
      least = subst (λ (zs : List Zone). IsLeast zs made) (sym zones) leads.least;
    },
    subst (λ (c : Config). zone_of made ≡ zone_asked c given) (sym same_config) about,
  )

  pub accepted_stays : (given : Command) → IsAccepted (config_in before) given
      → IsAccepted (config_in after) given
  accepted_stays given accepted =
      subst (λ (c : Config). IsAccepted c given) (sym same_config) accepted

  work_stays : ((ready : ReadyEdit) → IsEditReady before.table ready
      → IsEditReady after.table ready)
      → before.checks.room ≤ after.checks.room → (given : Command) (edit : Option ReadyEdit)
      → IsWorkReady before given edit → IsWorkReady after given edit
  work_stays edits room given None work =
      (work.0, accepted_stays given work.1, (let had = work.2 in omega (arith, had, room)))
  work_stays edits room given (Some ready) work =
      (work.0, edits ready work.1, edit_stays given ready.made work.2)

  pub all_stay : ((ready : ReadyEdit) → IsEditReady before.table ready
      → IsEditReady after.table ready)
      → before.checks.room ≤ after.checks.room → StayReady before after
  all_stay edits room prepared ready = record {
    bounded = ready.bounded;
    work = work_stays edits room prepared.command prepared.edit ready.work;
  }

-- ---- a table of zones that is made ready

module _ (before : State) (table now : Table) (checks : Kept) (next : ℕ) (told : Delta)
    (is : record { table = table; checks = checks; next_zone = next; told = told } ≡ before)
    (zones : now.zones ≡ table.zones) (collections : now.collections ≡ table.collections) where
  abbrev was : State
  was = record { table = table; checks = checks; next_zone = next; told = told }

  abbrev after : State
  after = record { table = now; checks = checks; next_zone = next; told = told }

  pub others_ready : ((ready : ReadyEdit) → IsEditReady table ready → IsEditReady now ready)
      → StayReady before after
  others_ready edits =
      subst (λ (s : State). StayReady s after) is
      (all_stay was after zones collections refl refl edits (omega arith))

  pub edit_ready : (given : Command) → IsBounded given → (IsOnChecks given → ⊥)
      → (made : ZoneEdit) → IsEditFor (config_in before) given before.table made
      → (ready : ReadyEdit) → ready.made ≡ made → IsEditReady now ready
      → IsReady after (record { command = given; edit = Some ready })
  edit_ready given bounded other made leads ready same work = record {
    bounded = bounded;
    work = (
      other,
      work,
      subst (λ (m : ZoneEdit). IsEditFor (config_in after) given now m) (sym same)
          (edit_stays was after zones collections refl refl given made
          (subst (λ (s : State). IsEditFor (config_in s) given s.table made) (sym is) leads)),
    );
  }
