-- Commands on health checks and on collections, beside the sets that name them (API Reference,
-- CreateHealthCheck, UpdateHealthCheck, DeleteHealthCheck; CreateCidrCollection,
-- ChangeCidrCollection, DeleteCidrCollection).
use Rattle.std.specs.Prelude.{ℕ, ◌==◌, Bool, false, List, [], ◌∷◌, Option, None, Some}
use Rattle.std.specs.Prelude.{option_map, Result, Ok, Err}
use Rattle.std.specs.List.{filter_map, list_any}
use Rattle.check_model.specs.Checks.{Checks}
use Rattle.check_model.specs.Commands.{checks_after, refusal_of}
use Rattle.check_model.specs.declared.checks.CheckCommand.{CheckCommand}
use Rattle.check_model.specs.declared.checks.CheckCommand.TheVariants as check
use Rattle.command_octets.specs.CidrFaultRecord.{CidrFault}
use Rattle.command_octets.specs.CommandsOfCidrCommands.{outcome}
use Rattle.command_octets.specs.Stored.{Stored}
use Rattle.command_octets.specs.CidrCommandRecord.{CidrCommand}
use Rattle.command_octets.specs.CidrCommandRecord.TheVariants as cidr
use Rattle.set_reading.specs.RecordSetRecord.{RecordSet}
use Rattle.set_reading.specs.RoutingRecord.{Routing}
use Rattle.set_reading.specs.RoutingRecord.TheVariants as routing
use Rattle.command_octets.specs.Hosted.{HostedZone}
use Rattle.config_model.specs.Configs.{Config, all_sets}
use Rattle.config_model.specs.Telling.{first_of, of_check, of_fault, refuse_if, unless}
use Rattle.config_model.specs.declared.refusals.Made.{Made}
use Rattle.config_model.specs.declared.refusals.Made.TheVariants as made
use Rattle.config_model.specs.declared.refusals.Refusal.{Refusal}
use Rattle.config_model.specs.declared.refusals.Refusal.TheVariants as refusal

-- ---- health checks

abbrev pub is_number : (id : ℕ) → Option ℕ → Bool
is_number id None = false
is_number id (Some other) = other == id

-- a set names the check
abbrev pub is_check_named : (id : ℕ) → List RecordSet → Bool
is_check_named id sets = list_any (λ (set : RecordSet). is_number id set.check) sets

-- A check that a set names can't be deleted (own).
abbrev pub in_use : List HostedZone → CheckCommand → Option Refusal
in_use zones (check.Create new) = None
in_use zones (check.Update id inverted disabled threshold children) = None
in_use zones (check.Delete id) =
    refuse_if (is_check_named id (all_sets zones)) (refusal.HealthCheckInUse id)

-- what a command on checks makes
abbrev pub made_check : Checks → CheckCommand → Made
made_check checks (check.Create new) = made.Check checks.next
made_check checks (check.Update id inverted disabled threshold children) = made.Nothing
made_check checks (check.Delete id) = made.Nothing

abbrev pub change_checks : Config → CheckCommand → Result (Config × Made) Refusal
change_checks config command = unless
    (first_of (option_map of_check (refusal_of config.checks command)
    ∷ in_use config.zones command ∷ [])) (
      record config { checks = checks_after config.checks command },
      made_check config.checks command,
    )

-- ---- collections

-- the collection and the location that a set names
abbrev pub named_by : Routing → Option (ℕ × List ℕ)
named_by (routing.Cidr ident collection location) = Some (collection, location)
named_by other = None

-- what the sets of all zones name
abbrev pub used_by : List HostedZone → List (ℕ × List ℕ)
used_by zones = filter_map (λ (set : RecordSet). named_by set.routing) (all_sets zones)

-- what a command on collections makes
abbrev pub made_collection : Stored → CidrCommand → Made
made_collection stored (cidr.Create name) = made.Collection stored.next
made_collection stored (cidr.Change id changes) = made.Nothing
made_collection stored (cidr.Delete id) = made.Nothing

abbrev pub with_collections : Config → Made → Result Stored CidrFault
    → Result (Config × Made) Refusal
with_collections config what (Err fault) = Err (of_fault fault)
with_collections config what (Ok after) = Ok (record config { collections = after }, what)

abbrev pub change_collections : Config → CidrCommand → Result (Config × Made) Refusal
change_collections config command =
    with_collections config (made_collection config.collections command)
    (outcome config.collections command (used_by config.zones))
