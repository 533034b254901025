use Rattle.std.proofs.Common.{rules}
use Rattle.std.proofs.lemmas.List.Sorted.{IsPartitionPoint-from_clause}
use Rattle.health_check.specs.Places.{comes_before}
use Rattle.health_check.proofs.Places.{parted_before}
use Rattle.health_check.proofs.finding.count_before.Goals as goal

pub returns-clause-split : goal.returns-clause-split
returns-clause-split c =
    IsPartitionPoint-from_clause (comes_before c.args.id) c.args.list.now
    c.partition_point.result c.partition_point.ensures.partitioned
    (parted_before c.args.list.now c.requires c.args.id) (λ a r f t. search rules)
