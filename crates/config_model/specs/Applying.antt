-- What a command makes of a configuration, or its first refusal.
use Rattle.std.specs.Prelude.{◌≡◌, ◌⊎◌, List, [], ◌∷◌, Result, Ok, Err}
use Rattle.command_octets.specs.declared.commands.Command.{Command}
use Rattle.command_octets.specs.declared.commands.Command.TheVariants as command
use Rattle.config_model.specs.Batches.{AppliesBatch}
use Rattle.config_model.specs.Configs.{Config}
use Rattle.config_model.specs.NewZones.{create_zone, delete_zone}
use Rattle.config_model.specs.Others.{change_checks, change_collections}
use Rattle.config_model.specs.declared.refusals.Made.{Made}
use Rattle.config_model.specs.declared.refusals.Refusal.{Refusal}
use Rattle.config_model.specs.declared.refusals.Refusal.TheVariants as refusal

-- the configuration after a command and what was made, or why the command is refused
abbrev pub Outcome : Type 0
Outcome = Result (Config × Made) Refusal

-- The outcome of a command, by its kind.
abbrev pub Decides : Config → Command → Outcome → Type 0
Decides config (command.CreateZone name servers) outcome =
    outcome ≡ create_zone config name servers
Decides config (command.DeleteZone id) outcome = outcome ≡ delete_zone config id
Decides config (command.Change batch) outcome = AppliesBatch config batch outcome
Decides config (command.Health health) outcome = outcome ≡ change_checks config health
Decides config (command.Cidr cidr) outcome = outcome ≡ change_collections config cidr

-- The same, but that memory may be wanted.
abbrev pub Applies : Config → Command → Outcome → Type 0
Applies config command outcome =
    (outcome ≡ Err refusal.OutOfMemory) ⊎ Decides config command outcome

-- These commands are accepted one after another, and lead from one configuration to another.
abbrev pub AppliesAll : Config → List Command → (after : Config) → Type 0
AppliesAll config [] after = after ≡ config
AppliesAll config (command ∷ commands) after =
    (middle : Config) × (what : Made) × Decides config command (Ok (middle, what))
    × AppliesAll middle commands after
