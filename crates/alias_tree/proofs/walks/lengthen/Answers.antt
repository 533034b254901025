use Rattle.std.proofs.Common.{◌+◌, sym, subst, arith}
use Rattle.alias_tree.specs.Starts.{AreStarts}
use Rattle.alias_tree.proofs.LinkByLink.{none_longer, none_marked, next_round}
use Rattle.alias_tree.proofs.walks.lengthen.Goals as goal

pub returns-then-is_none : goal.returns-then-is_none
returns-then-is_none c =
    let told = c.is_none.ensures in
    let none = c.if-is_none.true in
    let test = c.loop-round-test.true in
    λ sets aimed starts. none_longer sets c.loop-round.starts c.loop-round.round 17 (omega (arith, test))
    (c.loop-round.invariant.walks sets aimed starts)
    (none_marked c.loop-round.starts c.first_marked.result c.first_marked.ensures (grind (arith, told, none)))

pub loop-round-preserved : goal.loop-round-preserved
loop-round-preserved c =
    let copied = c.copy_from_slice.ensures.after in
    record {
      starts = cc;
      next = c.lead_on.ensures.one_each;
      walks = λ sets aimed starts. subst (λ l. AreStarts sets (c.loop-round.round + 1 + 1) l) (sym copied)
          (next_round sets c.args.targets.now aimed (c.loop-round.round + 1) (omega arith) c.loop-round.starts
          c.lead_on.new.next (c.loop-round.invariant.walks sets aimed starts) c.lead_on.ensures);
    }
