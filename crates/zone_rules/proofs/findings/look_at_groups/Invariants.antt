use Rattle.batch_model.specs.Rules.{OnePolicy, OwnPlace}
use Rattle.zone_rules.specs.Breaks.{IsFirstBefore, IsFullBefore}
use Rattle.zone_rules.specs.Groups.{IsStartBefore}
use Rattle.zone_rules.specs.Marks.{AreMarked}
use Rattle.zone_rules.specs.Lent.{sets_lent}
use Rattle.zone_rules.proofs.findings.look_at_groups.Given as goal

abbrev pub invariant-loop-i : goal.invariant-loop-i
invariant-loop-i l = record {
  marks : AreMarked (sets_lent l.sets) l.marks l.start l.i;
  start : IsStartBefore (sets_lent l.sets) l.start l.i;
  mixed : IsFirstBefore OnePolicy (sets_lent l.sets) l.i l.mixed;
  same_place : IsFirstBefore OwnPlace (sets_lent l.sets) l.i l.same_place;
  full : IsFullBefore (sets_lent l.sets) l.i l.full;
}
