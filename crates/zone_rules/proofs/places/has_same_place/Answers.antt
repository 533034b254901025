use Rattle.std.proofs.Common.{arith}
use Rattle.zone_rules.proofs.Marking.{unmarked}
use Rattle.zone_rules.specs.Lent.{sets_lent}
use Rattle.zone_rules.proofs.places.has_same_place.Goals as goal

pub returns-then-not-is_marked : goal.returns-then-not-is_marked
returns-then-not-is_marked c =
    let sets = sets_lent c.args.sets.now in
    let i = c.args.i in
    let no_mark = c.if-not-is_marked.true in (
      (λ t. absurd (grind (arith, t))),
      λ breaks.
          absurd (unmarked sets c.args.marks.now c.args.start i
          c.set_at.result.now c.set_at.ensures c.requires.start
          c.requires.marks
          (λ mark. let t = c.is_marked.ensures.1 mark in grind (arith, t, no_mark)) breaks),
    )
