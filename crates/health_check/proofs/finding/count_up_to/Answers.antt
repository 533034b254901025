use Rattle.std.proofs.Common.{rules}
use Rattle.std.proofs.lemmas.List.Sorted.{IsPartitionPoint-from_clause}
use Rattle.health_check.specs.Places.{comes_not_behind}
use Rattle.health_check.proofs.Places.{parted_up_to}
use Rattle.health_check.proofs.finding.count_up_to.Goals as goal

pub returns-clause-split : goal.returns-clause-split
returns-clause-split c =
    IsPartitionPoint-from_clause (comes_not_behind c.args.id) c.args.list.now
    c.partition_point.result c.partition_point.ensures.partitioned
    (parted_up_to c.args.list.now c.requires c.args.id) (λ a r f t. search rules)
