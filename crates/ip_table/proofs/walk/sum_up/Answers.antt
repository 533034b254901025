use Rattle.std.proofs.Common.{sym, subst, arith}
use Rattle.std.proofs.lemmas.Bool.Decides.{nat_tests}
use Rattle.ip_table.specs.Trees.{SumsUp}
use Rattle.ip_table.proofs.Sums.{empty, low}
use Rattle.ip_table.proofs.walk.sum_up.Goals as goal

pub returns-then-is_empty-clause-sums : goal.returns-then-is_empty-clause-sums
returns-then-is_empty-clause-sums c =
    subst (λ s. SumsUp c.args.prefixes.now c.args.address s) (sym c.nothing.ensures)
    (empty _ c.args.forks.now _ (grind (arith, nat_tests)) c.requires.all)

pub returns-then-width_of-eq32-clause-low : goal.returns-then-width_of-eq32-clause-low
returns-then-width_of-eq32-clause-low c =
    low c.args.prefixes.now c.args.address c.walk_of_v4.result c.requires.prefixes
    c.walk_of_v4.ensures.sound

pub returns-clause-low : goal.returns-clause-low
returns-clause-low c =
    low c.args.prefixes.now c.args.address c.walk.result c.requires.prefixes c.walk.ensures.sound
