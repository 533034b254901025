-- The command that octets are is within its bounds.
use Rattle.std.proofs.Common.{ℕ, List, [], ◌∷◌}
use Rattle.std.specs.List.{AllByRecursion}
use Rattle.config_model.specs.ChangeRecord.{Change}
use Rattle.check_model.specs.Commands.{IsBoundedCommand}
use Rattle.check_model.specs.declared.checks.CheckCommand.{CheckCommand}
use Rattle.check_model.specs.declared.checks.CheckCommand.TheVariants as check
use Rattle.config_model.specs.OctetsOfCheckOctets as checks
use Rattle.command_bounds.specs.Laws.{SpelledAreBounded}
use Rattle.command_codec.specs.Commands.{HasSet, IsCommand}
use Rattle.command_codec.specs.Octets.{HasSpelledSet, HasSpelling}
use Rattle.command_codec.specs.CommandRecord.{Command}
use Rattle.command_codec.specs.CommandRecord.TheVariants as command
use Rattle.config_model.specs.Laws.{HasBoundedSet, IsBounded}

changes_are : (changes : List Change) → AllByRecursion HasSet changes
    → AllByRecursion HasSpelledSet changes → AllByRecursion HasBoundedSet changes
changes_are [] are spelled = tt
changes_are (change ∷ changes) are spelled = (
  record {
    parts = are.0;
    routing = spelled.0.routing;
    body = spelled.0.body;
    of_type = spelled.0.of_type;
  },
  changes_are changes are.1 spelled.1,
)

health_is : (version : ℕ) (health : CheckCommand) → checks.HasSpelling version health
    → IsBoundedCommand health
health_is version (check.Create new) has = has.bounded
health_is version (check.Update id inverted disabled threshold children) has = has.threshold_is
health_is version (check.Delete id) has = tt

bounded_by : (version : ℕ) (given : Command) → IsCommand given → HasSpelling version given
    → IsBounded given
bounded_by version (command.CreateZone name servers) is has = (is.0, is.1.names, is.1.four)
bounded_by version (command.DeleteZone id) is has = tt
bounded_by version (command.Change batch) is has = changes_are batch.changes is has.each
bounded_by version (command.Health health) is has = health_is version health has
bounded_by version (command.Cidr cidr) is has = has.1.0

pub spelled_are_bounded : SpelledAreBounded
spelled_are_bounded octets given s = bounded_by s.version given s.is s.has_spelling
