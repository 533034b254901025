use Rattle.std.proofs.Common.{◌≡◌, drop}
use Rattle.cidr_commands.specs.Stored.{collection_with}
use Rattle.cidr_commands.proofs.finding.place_of.Given as goal

abbrev pub invariant-loop-i : goal.invariant-loop-i
invariant-loop-i l = collection_with l.id (drop l.i l.list) ≡ collection_with l.id l.list
