-- What a command on collections comes to, by the edit that it makes.
use Rattle.std.proofs.Common.{◌≡◌, ℕ, List, ap, ◌∙◌, refl, arith, inl, inr}
use Rattle.std.specs.Prelude.{◌⊎◌, Result, Ok, Err}
use Rattle.check_model.specs.Checks.{Checks}
use Rattle.cidr_changes.specs.declared.faults.CidrFault.{CidrFault}
use Rattle.cidr_commands.specs.Commands.{GivesWhere, MayWant, outcome}
use Rattle.cidr_commands.specs.Stored.{Stored}
use Rattle.cidr_commands.specs.declared.command.CidrCommand.{CidrCommand}
use Rattle.config_zones.specs.CommandRecord.TheVariants as command
use Rattle.config_zones.specs.Edited.{hosted_in}
use Rattle.config_zones.specs.Configs.{Config}
use Rattle.config_zones.specs.Others.{made_collection, used_by, with_collections}
use Rattle.config_zones.specs.Configured.{IsEditFor, config_of}
use Rattle.config_zones.specs.Tables.{Table}
use Rattle.config_zones.specs.ZoneEditRecord.TheVariants.{Collections}

abbrev Used : Type 0
Used = List (ℕ × List ℕ)

-- what is answered is what is defined
answered : (may : Type 0) (after : Stored) (defined : Result Stored CidrFault)
    → GivesWhere may (Ok after) defined → Ok after ≡ defined
answered may after defined (inl wanted) = (let e = wanted.0 in absurd (grind (arith, e)))
answered may after defined (inr is) = is

module _ (table : Table) (given : CidrCommand) (checks : Checks) (next : ℕ) where
  abbrev config : Config
  config = config_of table checks next

  pub made_whole : (collections : Stored) → collections ≡ table.collections → (used : Used)
      → outcome table.collections given used
      ≡ outcome table.collections given (used_by (hosted_in table.zones))
      → (named : Used) → named ≡ used → (after : Stored)
      → GivesWhere (MayWant collections given named) (Ok after) (outcome collections given named)
      → IsEditFor config (command.Cidr given) table (Collections after)
  made_whole collections same used as_all named is after gives =
      let e : Ok after ≡ outcome table.collections given (used_by (hosted_in table.zones)) =
      answered (MayWant collections given named) after (outcome collections given named) gives
      ∙ (ap (λ (s : Stored). outcome s given named) same
      ∙ (ap (outcome table.collections given) is ∙ as_all)) in (
        record config { collections = after },
        made_collection table.collections given,
        ap (with_collections config (made_collection table.collections given)) e,
        record {
          allowed = tt;
          zones = λ zones told are are_after edits. ap hosted_in edits.its.0;
          collections = refl;
          least = tt;
        },
        refl,
      )
