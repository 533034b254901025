use Rattle.std.proofs.Common.{drop}
use Rattle.std.specs.Prelude.{◌↔◌}
use Rattle.std.specs.List.{AllByRecursion}
use Rattle.set_reading.specs.Names.{IsName}
use Rattle.command_codec.proofs.parts.four_names.Given as goal

abbrev pub invariant-loop-server : goal.invariant-loop-server
invariant-loop-server l = AllByRecursion IsName l.servers
    ↔ AllByRecursion IsName (drop l.server-index l.servers)
