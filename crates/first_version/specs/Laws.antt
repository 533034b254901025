-- What the first version's rules accept is accepted.
use Rattle.std.specs.Prelude.{List}
use Rattle.std.specs.List.{AllByRecursion}
use Rattle.command_octets.specs.declared.commands.Command.{Command}
use Rattle.config_model.specs.Applying.{AppliesAll}
use Rattle.config_model.specs.Configs.{Config, empty}
use Rattle.config_model.specs.Laws.{IsBounded}
use Rattle.config_model.specs.Sound.{Sound}
use Rattle.first_version.specs.Rules.{FormerAppliesAll, IsFormerConfig}
use Rattle.snapshot_octets.specs.Octets.{HasSnapshot}

-- Commands of the first version that its rules accept in their order, from any configuration of it
-- on, are accepted and lead to the same configuration, which is one of it: no check is disabled.
abbrev pub FormerVersionStays : Type 0
FormerVersionStays = (before after : Config) (commands : List Command)
    → IsFormerConfig before → FormerAppliesAll before commands after
    → AppliesAll before commands after × IsFormerConfig after

-- The empty configuration is one of the first version.
abbrev pub EmptyIsFormer : Type 0
EmptyIsFormer = IsFormerConfig empty

-- A configuration to which commands of the first version lead is sound by the rules of today, and
-- has a snapshot in the first version. So it is the base of a store whose files begin with that.
abbrev pub FormerStoresOpen : Type 0
FormerStoresOpen = (after : Config) (commands : List Command) → AllByRecursion IsBounded commands
    → FormerAppliesAll empty commands after
    → Sound after × HasSnapshot 1 after
