use Rattle.std.proofs.Common.{subst, sym}
use Rattle.zone_rules.specs.Marks.{AreMarked}
use Rattle.zone_rules.proofs.Marking.{none_to_mark, marked_next}
use Rattle.zone_rules.specs.Lent.{sets_lent}
use Rattle.zone_rules.proofs.marks.mark_next.Goals as goal
use Rattle.zone_rules.proofs.marks.mark_next.Goals.{then-start-i, else-start-i}

pub returns : goal.returns
returns c =
    let sets = sets_lent c.args.sets.now in
    let start = c.args.start in
    let i = c.args.i in
    let before : AreMarked sets c.if-start-i.marks start i = elim c.if-start-i.branch [
      | then-start-i w ↦ none_to_mark sets c.if-start-i.marks start i w.if-start-i.true
      | else-start-i w ↦
          subst (λ marks. AreMarked sets marks start i) (sym w.marks-is) c.requires.before
    ] in
    marked_next sets c.if-start-i.marks c.mark.new.marks start i
    c.set_at.result.now c.set_at.ensures
    c.mark.ensures.kept c.mark.ensures.marked before
