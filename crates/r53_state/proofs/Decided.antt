-- What is known of a configuration once a command is made.
use Rattle.std.proofs.Common.{◌≡◌, ◌≢◌, ℕ, List, [], ◌∷◌, length, ap}
use Rattle.std.proofs.Common.{◌∙◌}
use Rattle.std.proofs.Common.{sym, refl, subst, arith, inl, inr, Option, None, Some}
use Rattle.std.specs.Prelude.{◌==◌, not, option_map, Result, Ok, Err}
use Rattle.std.proofs.lemmas.Bool.{eq-eqb, false≢true}
use Rattle.zone_commands.specs.BatchRecord.{Batch}
use Rattle.check_model.specs.Commands.{checks_after, refusal_of}
use Rattle.check_model.specs.declared.checks.CheckCommand.{CheckCommand}
use Rattle.cidr_changes.specs.declared.faults.CidrFault.{CidrFault}
use Rattle.cidr_commands.specs.Commands.{outcome}
use Rattle.cidr_commands.specs.Stored.{Stored}
use Rattle.zone_commands.specs.CommandRecord.{Command}
use Rattle.zone_commands.specs.CommandRecord.TheVariants as command
use Rattle.check_commands.proofs.Told.{parts, told_false}
use Rattle.check_commands.proofs.Zoning.{accepted}
use Rattle.check_commands.specs.Applying.{Decides}
use Rattle.check_commands.specs.Batches.{ChangesIn, sets_refusal, store_refusal}
use Rattle.check_commands.specs.Configs.{Config, with_sets, without_zone, zone_with}
use Rattle.check_commands.specs.NewZones.{are_most, create_refusal, end_of, end_refusal, has_zone}
use Rattle.check_commands.specs.NewZones.{is_repeated, is_zone_name, with_zone}
use Rattle.check_commands.specs.Others.{change_checks, in_use, made_check, made_collection, used_by}
use Rattle.check_commands.specs.Others.{with_collections}
use Rattle.check_commands.specs.Telling.{first_of, invalid, of_check, refuse_if}
use Rattle.check_commands.specs.InputReasonRecord.TheVariants as reason
use Rattle.check_commands.specs.MadeRecord.{Made}
use Rattle.check_commands.specs.MadeRecord.TheVariants as made
use Rattle.check_commands.specs.RefusalRecord.{Refusal}
use Rattle.check_commands.specs.RefusalRecord.TheVariants as refusal
use Rattle.r53_state.specs.Steps.{BeginsZone, checks_of, made_of, next_after}
use Rattle.zone_model.specs.Hosted.{HostedZone}

-- what was made, the next number of a zone, and the checks
pub record PartsAre (config : Config) (command : Command) (after : Config) (what : Made)
    : Type 0 where
  pub made : what ≡ made_of config command
  pub next : after.next_zone ≡ next_after config.next_zone command
  pub checks : after.checks ≡ checks_of config.checks command
  pub numbered : BeginsZone command → config.next_zone ≢ 4294967295

abbrev Answer : Type 0
Answer = Config × Made

module _ (config after : Config) (what : Made) where
  create_parts : (name : List (List ℕ)) (servers : List (List (List ℕ)))
      → Decides config (command.CreateZone name servers) (Ok (after, what))
      → PartsAre config (command.CreateZone name servers) after what
  create_parts name servers e =
      let now = with_zone config name servers in
      let both = accepted (create_refusal config name servers) (after, what)
      (now, made.Zone config.next_zone) e in
      let none = parts (refuse_if (not (is_zone_name name)) (invalid reason.BadZoneName))
      (refuse_if (is_repeated servers) (invalid reason.RepeatedValue))
      (refuse_if (has_zone config.zones name) (invalid reason.ZoneExists))
      (refuse_if (are_most (length config.zones)) refusal.TooManyHostedZones)
      (refuse_if (config.next_zone == 4294967295) refusal.IdsEnded)
      (store_refusal now.zones) both.0 in
      record {
        made = ap (λ (a : Answer). a.1) both.1;
        next = ap (λ (a : Answer). a.0.next_zone) both.1;
        checks = ap (λ (a : Answer). a.0.checks) both.1;
        numbered = λ opens last. (let no = told_false (config.next_zone == 4294967295)
            refusal.IdsEnded none.4 in
            false≢true (sym no ∙ eq-eqb config.next_zone 4294967295 last));
      }

  end_parts : (id : ℕ) (found : Option HostedZone) → Ok (after, what) ≡ end_of config found
      → PartsAre config (command.DeleteZone id) after what
  end_parts id None e = absurd (grind (arith, e))
  end_parts id (Some zone) e =
      let both = accepted (end_refusal zone) (after, what)
      (record config { zones = without_zone config.zones zone.id }, made.Nothing) e in
      record {
        made = ap (λ (a : Answer). a.1) both.1;
        next = ap (λ (a : Answer). a.0.next_zone) both.1;
        checks = ap (λ (a : Answer). a.0.checks) both.1;
        numbered = λ opens last. opens;
      }

  batch_parts : (batch : Batch) (found : Option HostedZone)
      → ChangesIn config found batch (Ok (after, what))
      → PartsAre config (command.Change batch) after what
  batch_parts batch None e = absurd (grind (arith, e))
  batch_parts batch (Some zone) (inl (why, known, refused, e)) = absurd (grind (arith, e))
  batch_parts batch (Some zone) (inr (sets, prepared, e)) =
      let zones = with_sets config.zones zone.id sets in
      let both = accepted (first_of (
      sets_refusal config.checks.list config.collections.list sets
      ∷ store_refusal zones ∷ []))
      (after, what) (record config { zones = zones }, made.Nothing) e in
      record {
        made = ap (λ (a : Answer). a.1) both.1;
        next = ap (λ (a : Answer). a.0.next_zone) both.1;
        checks = ap (λ (a : Answer). a.0.checks) both.1;
        numbered = λ opens last. opens;
      }

  check_both : (health : CheckCommand)
      → Decides config (command.Health health) (Ok (after, what))
      → (first_of (option_map of_check (refusal_of config.checks health)
      ∷ in_use config.zones health ∷ []) ≡ None)
      × ◌≡◌ {A = Answer} (after, what) (
        record config { checks = checks_after config.checks health },
        made_check config.checks health,
      )
  check_both health e =
      accepted (first_of (option_map of_check (refusal_of config.checks health)
      ∷ in_use config.zones health ∷ [])) (after, what) (
        record config { checks = checks_after config.checks health },
        made_check config.checks health,
      ) e

  check_parts : (health : CheckCommand)
      → Decides config (command.Health health) (Ok (after, what))
      → PartsAre config (command.Health health) after what
  check_parts health e =
      let both = check_both health e in
      record {
        made = ap (λ (a : Answer). a.1) both.1;
        next = ap (λ (a : Answer). a.0.next_zone) both.1;
        checks = ap (λ (a : Answer). a.0.checks) both.1;
        numbered = λ opens last. opens;
      }

  cidr_by : (is : Made) (found : Result Stored CidrFault)
      → Ok (after, what) ≡ with_collections config is found
      → (what ≡ is) × (after.next_zone ≡ config.next_zone) × (after.checks ≡ config.checks)
  cidr_by is (Err fault) e = absurd (grind (arith, e))
  cidr_by is (Ok stored) e =
      let both : (after, what) ≡ (record config { collections = stored }, is) =
      grind (arith, e) in (
        ap (λ (a : Answer). a.1) both,
        ap (λ (a : Answer). a.0.next_zone) both,
        ap (λ (a : Answer). a.0.checks) both,
      )

  pub decided : (given : Command) → Decides config given (Ok (after, what))
      → PartsAre config given after what
  decided (command.CreateZone name servers) e = create_parts name servers e
  decided (command.DeleteZone id) e = end_parts id (zone_with config.zones id) e
  decided (command.Change batch) e = batch_parts batch (zone_with config.zones batch.zone) e
  decided (command.Health health) e = check_parts health e
  decided (command.Cidr cidr) e =
      let is = cidr_by (made_collection config.collections cidr)
      (outcome config.collections cidr (used_by config.zones)) e in
      record {
        made = is.0;
        next = is.1;
        checks = is.2;
        numbered = λ opens last. opens;
      }

-- a command on health checks leaves all but these
pub check_becomes : (config : Config) (health : CheckCommand) (after : Config) (what : Made)
    → Decides config (command.Health health) (Ok (after, what))
    → Decides config (command.Health health)
    (Ok (
      record config { checks = checks_after config.checks health },
      made_check config.checks health,
    ))
check_becomes config health after what e =
    subst (λ (a : Answer). Ok a ≡ change_checks config health)
    (check_both config after what health e).1 e

no_fault : {X : Type 0} (f : X → Refusal) (found : Option X) (other : Option Refusal)
    → first_of (option_map f found ∷ other ∷ []) ≡ None → found ≡ None
no_fault f None other e = refl
no_fault f (Some x) other e = absurd (grind (arith, e))

-- and the table of checks refuses nothing
pub not_refused : (config : Config) (health : CheckCommand) (after : Config) (what : Made)
    → Decides config (command.Health health) (Ok (after, what))
    → refusal_of config.checks health ≡ None
not_refused config health after what e =
    no_fault of_check (refusal_of config.checks health) (in_use config.zones health)
    (check_both config after what health e).0
