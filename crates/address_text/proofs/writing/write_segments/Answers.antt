use Rattle.std.proofs.Common.{◌++◌, take, codes, arith, sym, ap, subst}
use Rattle.std.specs.Net.Text.{groups_text}
use Rattle.address_text.specs.Wrote.{Wrote}
use Rattle.address_text.proofs.Colons.{plain, around}
use Rattle.address_text.proofs.writing.write_segments.Goals as goal

pub returns-then-len-lt-FEWEST_ELIDED-clause-wrote
    : goal.returns-then-len-lt-FEWEST_ELIDED-clause-wrote
returns-then-len-lt-FEWEST_ELIDED-clause-wrote c =
    let run = c.longest_zero_run-start.ensures.run in
    subst (Wrote _ _ _ _)
    (sym (plain c.args.segments.now
    (omega (arith, c.if-len-lt-FEWEST_ELIDED.true, ap (λ r. r.1) run))))
    c.write_groups.ensures.wrote

pub returns-clause-wrote : goal.returns-clause-wrote
returns-clause-wrote c =
    let run = c.longest_zero_run-start.result in
    subst (Wrote _ _ _ _)
    (sym (around c.args.segments.now run c.longest_zero_run-start.ensures.run
    (omega (arith, c.if-len-lt-FEWEST_ELIDED.false))))
    (subst (λ t. Wrote c.args.into.now c.write_around.new.into c.args.at c.write_around.result
    (groups_text (take run.0 c.args.segments.now) ++ codes "::" ++ groups_text t))
    c.segments_behind.ensures c.write_around.ensures.wrote)
