use Rattle.std.proofs.Common.{◌≡◌, []}
use Rattle.cidr_changes.specs.Gathered.{gathered}
use Rattle.cidr_changes.proofs.gathering.locations_of.Given as goal

abbrev pub invariant-loop-block : goal.invariant-loop-block
invariant-loop-block l = gathered l.block-iterator l.list.items ≡ gathered l.rows.entries []
