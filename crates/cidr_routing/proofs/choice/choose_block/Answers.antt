use Rattle.std.proofs.Common.{sym, ◌∙◌}
use Rattle.considered_sets.proofs.InTurn.{any_one}
use Rattle.cidr_routing.proofs.choice.choose_block.Goals as goal

pub returns-clause-chosen : goal.returns-clause-chosen
returns-clause-chosen c =
    c.search-2.ensures.first
    ∙ any_one c.args.healthy.now _ (sym c.in_default.is ∙ c.search.ensures.first)
