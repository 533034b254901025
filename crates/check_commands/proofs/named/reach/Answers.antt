use Rattle.std.proofs.Common.{◌∙◌, ap}
use Rattle.check_commands.specs.Counts.{times, told_at}
use Rattle.check_commands.proofs.Sums.{told_more, times_more}
use Rattle.check_commands.proofs.named.reach.Goals as goal

pub loop-list-preserved : goal.loop-list-preserved
loop-list-preserved c = record {
  told = λ other.
      ap (λ l. told_at l other) c.push_reserved.ensures.items
      ∙ (told_more c.loop-list.list.items other ∙ c.loop-list.invariant.told other);
  times = λ check some.
      ap (times check) c.push_reserved.ensures.items
      ∙ (times_more c.loop-list.list.items check some ∙ c.loop-list.invariant.times check some);
}
