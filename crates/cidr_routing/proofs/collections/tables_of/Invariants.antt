use Rattle.std.proofs.Common.{◌≡◌, take}
use Rattle.cidr_routing.specs.Tables.{tables_of}
use Rattle.cidr_routing.proofs.collections.tables_of.Given as goal

abbrev pub invariant-loop-held : goal.invariant-loop-held
invariant-loop-held l = l.tables.items ≡ tables_of (take l.held-index l.list)
