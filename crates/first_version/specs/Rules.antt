-- The rules of the first version (own): no check is disabled, a calculated check is over checks of
-- endpoints alone, and there are no collections. All other rules are those of today.
use Rattle.std.specs.Prelude.{◌≡◌, ◌≢◌, ◌⊎◌, ℕ, Bool, false, nat_le, nat_eq, List, [], ◌∷◌, ◌++◌, length}
use Rattle.std.specs.Prelude.{Option, None, Some, option_map, Ok, Err, ⊤}
use Rattle.std.specs.List.{AllByRecursion, list_any}
use Rattle.batch_model.specs.Batches.{Prepares}
use Rattle.batch_model.specs.declared.batches.Batch.{Batch}
use Rattle.batch_model.specs.declared.batches.Change.{Change}
use Rattle.batch_model.specs.declared.refusals.BatchRefusal.{BatchRefusal}
use Rattle.batch_model.specs.declared.refusals.BatchRefusal.TheVariants as refused
use Rattle.check_model.specs.Checks.{Checks, IsCalculated, IsChildOf, check_with, children_of}
use Rattle.check_model.specs.Commands.{Given, checks_after, delete_refusal, first_missing, first_of}
use Rattle.check_model.specs.Commands.{given_by, has_repeated, is_calculated_there, is_wrong_member}
use Rattle.check_model.specs.Commands.{missing, of_there, refuse_if}
use Rattle.check_model.specs.declared.checks.Check.{Check}
use Rattle.check_model.specs.declared.checks.Check.TheVariants.{Endpoint, Calculated}
use Rattle.check_model.specs.declared.checks.CheckCommand.{CheckCommand}
use Rattle.check_model.specs.declared.checks.CheckCommand.TheVariants.{Create, Update, Delete}
use Rattle.check_model.specs.declared.refusals.CheckRefusal.{CheckRefusal}
use Rattle.check_model.specs.declared.refusals.CheckRefusal.TheVariants.{ChildRepeated, ChildTooDeep, WrongMember, TooManyHealthChecks, IdsEnded}
use Rattle.command_octets.specs.declared.commands.Command.{Command}
use Rattle.command_octets.specs.declared.commands.Command.TheVariants as command
use Rattle.config_model.specs.Applying.{Decides, Outcome}
use Rattle.config_model.specs.Batches.{check_refusal, depth_refusal, first_among, is_zone_full}
use Rattle.config_model.specs.Batches.{store_refusal, target_refusal}
use Rattle.config_model.specs.Configs.{Config, empty, with_sets, zone_with}
use Rattle.config_model.specs.Others.{in_use, made_check}
use Rattle.config_model.specs.Telling as told
use Rattle.config_model.specs.declared.refusals.Refusal.{Refusal}
use Rattle.config_model.specs.declared.refusals.Refusal.TheVariants as refusal
use Rattle.config_model.specs.declared.refusals.Made.{Made}
use Rattle.config_model.specs.declared.refusals.Made.TheVariants as made
use Rattle.record_set.specs.declared.sets.RecordSet.{RecordSet}
use Rattle.routing.specs.declared.policies.Routing.{Routing}
use Rattle.routing.specs.declared.policies.Routing.TheVariants as routing
use Rattle.zone_model.specs.Hosted.{HostedZone}

-- ---- commands of the first version

abbrev pub is_disabled : Check → Bool
is_disabled (Endpoint threshold inverted disabled) = disabled
is_disabled (Calculated threshold inverted disabled children) = disabled

-- a command on checks, which has no word on whether a check is disabled
abbrev pub IsFormerHealth : CheckCommand → Type 0
IsFormerHealth (Create check) = is_disabled check ≡ false
IsFormerHealth (Update id inverted disabled threshold children) = disabled ≡ None
IsFormerHealth (Delete id) = ⊤

-- nothing names a collection
abbrev pub IsFormerRouting : Routing → Type 0
IsFormerRouting (routing.Cidr ident collection location) = ⊥
IsFormerRouting other = ⊤

abbrev pub IsFormerSet : RecordSet → Type 0
IsFormerSet set = IsFormerRouting set.routing

abbrev pub IsFormerChange : Change → Type 0
IsFormerChange change = IsFormerSet change.set

-- a command that the first version has
abbrev pub IsFormer : Command → Type 0
IsFormer (command.CreateZone name servers) = ⊤
IsFormer (command.DeleteZone id) = ⊤
IsFormer (command.Change batch) = AllByRecursion IsFormerChange batch.changes
IsFormer (command.Health health) = IsFormerHealth health
IsFormer (command.Cidr cidr) = ⊥

-- ---- configurations of the first version

-- the number is that of a check of an endpoint
abbrev pub IsEndpointAt : List (ℕ × Check) → ℕ → Type 0
IsEndpointAt list id =
    (check : Check) × (check_with list id ≡ Some check) × (IsCalculated check → ⊥)

-- each child is a check of an endpoint
abbrev pub IsFlat : List (ℕ × Check) → Type 0
IsFlat list = (id child : ℕ) → IsChildOf list id child → IsEndpointAt list child

-- no check is disabled
abbrev pub NoneIsDisabled : List (ℕ × Check) → Type 0
NoneIsDisabled list =
    (id : ℕ) (check : Check) → check_with list id ≡ Some check → is_disabled check ≡ false

-- checks that the first version can have
pub record AreFormerChecks (list : List (ℕ × Check)) : Type 0 where
  pub flat : IsFlat list
  pub enabled : NoneIsDisabled list

-- no set of a zone names a collection
abbrev pub IsFormerZone : HostedZone → Type 0
IsFormerZone zone = AllByRecursion IsFormerSet zone.sets

-- A configuration that the first version can have, as of its checks and of what sets name. There
-- are no collections, and there never were.
pub record IsFormerConfig (config : Config) : Type 0 where
  pub checks : AreFormerChecks config.checks.list
  pub collections : config.collections ≡ empty.collections
  pub zones : AllByRecursion IsFormerZone config.zones

-- ---- commands on checks by its rules

-- Children differ and are there, and none is calculated. The last refusal had a name of its own
-- (ChildNotEndpoint), and is told by the one that came in its place.
abbrev pub first_children_rules : List (ℕ × Check) → (children : List ℕ)
    → List (Option CheckRefusal)
first_children_rules list children =
    refuse_if (has_repeated children) ChildRepeated
    ∷ missing (first_missing list children)
    ∷ refuse_if (list_any (λ child. is_calculated_there (check_with list child)) children) ChildTooDeep
    ∷ []

-- the first refusal of a new check
abbrev pub first_create_refusal : Checks → Check → Option CheckRefusal
first_create_refusal checks check = first_of (
    first_children_rules checks.list (children_of check)
    ++ refuse_if (nat_le 200 (length checks.list)) TooManyHealthChecks
    ∷ refuse_if (nat_eq checks.next 4294967295) IdsEnded
    ∷ [])

abbrev pub first_given_rules : List (ℕ × Check) → Option (List ℕ) → List (Option CheckRefusal)
first_given_rules list None = []
first_given_rules list (Some children) = first_children_rules list children

-- the first refusal of changes of a check that is there
abbrev pub first_update_refusal : Checks → Given → Check → Option CheckRefusal
first_update_refusal checks given check = first_of (
    refuse_if (is_wrong_member given check) WrongMember
    ∷ first_given_rules checks.list given.children)

-- The first refusal of a command on checks.
abbrev pub first_refusal_of : Checks → CheckCommand → Option CheckRefusal
first_refusal_of checks (Create check) = first_create_refusal checks check
first_refusal_of checks (Update id inverted disabled threshold children) =
    of_there id (check_with checks.list id)
    (first_update_refusal checks (given_by inverted disabled threshold children))
first_refusal_of checks (Delete id) =
    of_there id (check_with checks.list id) (λ check. delete_refusal checks id)

-- ---- batches by its rules

-- The first refusal of the sets of a zone, beside these checks.
abbrev pub first_sets_refusal : List (ℕ × Check) → List RecordSet → Option Refusal
first_sets_refusal checks zone = told.first_of (
    first_among (check_refusal checks) zone
    ∷ first_among (target_refusal zone) zone
    ∷ first_among (depth_refusal zone) zone
    ∷ told.refuse_if (is_zone_full zone) refusal.ZoneFull
    ∷ [])

-- the zones, where the one of a number has these sets, or the first refusal of that
abbrev pub first_changed_zones : Config → (id : ℕ) → (after : List RecordSet) → Outcome
first_changed_zones config id after = told.unless
    (told.first_of (
    first_sets_refusal config.checks.list after
    ∷ store_refusal (with_sets config.zones id after)
    ∷ []))
    (record config { zones = with_sets config.zones id after }, made.Nothing)

-- A batch on a zone, if there is one.
abbrev pub FormerChangesIn : Config → Option HostedZone → Batch → Outcome → Type 0
FormerChangesIn config None batch outcome = outcome ≡ Err refusal.NoSuchHostedZone
FormerChangesIn config (Some zone) batch outcome =
    ((why : BatchRefusal) × (why ≢ refused.OutOfMemory)
    × Prepares zone.sets zone.apex batch.changes (Err why) × (outcome ≡ Err (told.of_batch why)))
    ⊎ ((after : List RecordSet) × Prepares zone.sets zone.apex batch.changes (Ok after)
    × (outcome ≡ first_changed_zones config zone.id after))

-- ---- commands by its rules

abbrev pub first_change_checks : Config → CheckCommand → Outcome
first_change_checks config command = told.unless
    (told.first_of (option_map told.of_check (first_refusal_of config.checks command)
    ∷ in_use config.zones command ∷ [])) (
      record config { checks = checks_after config.checks command },
      made_check config.checks command,
    )

-- The outcome of a command, by its kind.
abbrev pub FormerDecides : Config → Command → Outcome → Type 0
FormerDecides config (command.CreateZone name servers) outcome =
    Decides config (command.CreateZone name servers) outcome
FormerDecides config (command.DeleteZone id) outcome =
    Decides config (command.DeleteZone id) outcome
FormerDecides config (command.Change batch) outcome =
    FormerChangesIn config (zone_with config.zones batch.zone) batch outcome
FormerDecides config (command.Health health) outcome = outcome ≡ first_change_checks config health
FormerDecides config (command.Cidr cidr) outcome = ⊥

-- These commands are of the first version, are accepted by its rules one after another, and lead
-- from one configuration to another.
abbrev pub FormerAppliesAll : Config → List Command → (after : Config) → Type 0
FormerAppliesAll config [] after = after ≡ config
FormerAppliesAll config (command ∷ commands) after =
    IsFormer command × (middle : Config) × (what : Made)
    × FormerDecides config command (Ok (middle, what)) × FormerAppliesAll middle commands after
