use Rattle.std.proofs.Common.{arith}
use Rattle.batch_model.specs.Rules.{OnePolicy, OwnPlace}
use Rattle.zone_rules.proofs.Firsts.{first_here, none_here, first_stays, first_of_all, full_here, none_far_here, full_stays, full_of_all}
use Rattle.zone_rules.proofs.Lending.{as_many, inside, past}
use Rattle.zone_rules.proofs.Marking.{marked_on}
use Rattle.zone_rules.proofs.Runs.{start_next}
use Rattle.zone_rules.specs.Lent.{sets_lent}
use Rattle.zone_rules.proofs.findings.look_at_groups.Goals as goal
use Rattle.zone_rules.proofs.findings.look_at_groups.Goals.{then-is_none+then-is_mixed, else-is_none, else-is_none-via-then-is_none+else-is_mixed, else-is_none-via-else-is_none}
use Rattle.zone_rules.proofs.findings.look_at_groups.Goals.{then-is_none-2+then-has_same_place, else-is_none-2, else-is_none-2-via-then-is_none-2+else-has_same_place, else-is_none-2-via-else-is_none-2}
use Rattle.zone_rules.proofs.findings.look_at_groups.Goals.{then-is_none-3+then-is_past_most, else-is_none-3, else-is_none-3-via-then-is_none-3+else-is_past_most, else-is_none-3-via-else-is_none-3}

pub loop-i-preserved : goal.loop-i-preserved
loop-i-preserved c =
    let sets = sets_lent c.args.sets.now in
    let i = c.loop-i.i in
    let start = c.start_of-start.result in
    let before = c.loop-i.invariant in
    let within = inside c.args.sets.now i c.loop-i-test.true in
    record {
      marks = c.mark_next.ensures;
      start = start_next sets start i c.start_of-start.ensures.start;
      mixed = elim c.if-is_none.branch [
        | then-is_none+then-is_mixed w ↦
            first_here OnePolicy sets i c.loop-i.mixed c.if-is_none.mixed c.is_none.result
            c.is_none.ensures w.if-is_none.true (w.is_mixed.ensures.0 w.if-is_mixed.true)
            w.mixed-is before.mixed
        | else-is_none w ↦
            elim w.else-is_none.branch [
              | else-is_none-via-then-is_none+else-is_mixed v ↦
                  none_here OnePolicy sets i c.loop-i.mixed c.if-is_none.mixed c.is_none.result
                  c.is_none.ensures v.if-is_none.true (λ b. let t = v.is_mixed.ensures.1 b in
                  let f = v.if-is_mixed.false in grind (arith, t, f)) w.mixed-is before.mixed
              | else-is_none-via-else-is_none v ↦
                  first_stays OnePolicy sets i c.loop-i.mixed c.if-is_none.mixed c.is_none.result
                  c.is_none.ensures v.if-is_none.false w.mixed-is before.mixed
            ]
      ];
      same_place = elim c.if-is_none-2.branch [
        | then-is_none-2+then-has_same_place w ↦
            first_here OwnPlace sets i c.loop-i.same_place c.if-is_none-2.same_place
            c.is_none-in-loop-i.result c.is_none-in-loop-i.ensures w.if-is_none-2.true
            (w.has_same_place.ensures.0 w.if-has_same_place.true) w.same_place-is
            before.same_place
        | else-is_none-2 w ↦
            elim w.else-is_none-2.branch [
              | else-is_none-2-via-then-is_none-2+else-has_same_place v ↦
                  none_here OwnPlace sets i c.loop-i.same_place c.if-is_none-2.same_place
                  c.is_none-in-loop-i.result c.is_none-in-loop-i.ensures v.if-is_none-2.true
                  (λ b. let t = v.has_same_place.ensures.1 b in let f =
                  v.if-has_same_place.false in
                  grind (arith, t, f)) w.same_place-is before.same_place
              | else-is_none-2-via-else-is_none-2 v ↦
                  first_stays OwnPlace sets i c.loop-i.same_place c.if-is_none-2.same_place
                  c.is_none-in-loop-i.result c.is_none-in-loop-i.ensures v.if-is_none-2.false
                  w.same_place-is before.same_place
            ]
      ];
      full = elim c.if-is_none-3.branch [
        | then-is_none-3+then-is_past_most w ↦
            full_here sets i c.loop-i.full c.if-is_none-3.full start c.is_none-in-loop-i-2.result
            c.is_none-in-loop-i-2.ensures w.if-is_none-3.true c.requires within
            c.start_of-start.ensures.start (w.is_past_most.ensures.0 w.if-is_past_most.true)
            w.full-is before.full
        | else-is_none-3 w ↦
            elim w.else-is_none-3.branch [
              | else-is_none-3-via-then-is_none-3+else-is_past_most v ↦
                  none_far_here sets i c.loop-i.full c.if-is_none-3.full start
                  c.is_none-in-loop-i-2.result c.is_none-in-loop-i-2.ensures v.if-is_none-3.true
                  c.start_of-start.ensures.start (λ b. let t = v.is_past_most.ensures.1 b in
                  let f = v.if-is_past_most.false in grind (arith, t, f)) w.full-is before.full
              | else-is_none-3-via-else-is_none-3 v ↦
                  full_stays sets i c.loop-i.full c.if-is_none-3.full c.is_none-in-loop-i-2.result
                  c.is_none-in-loop-i-2.ensures v.if-is_none-3.false w.full-is before.full
            ]
      ];
    }

pub has_same_place-requires-clause-marks : goal.has_same_place-requires-clause-marks
has_same_place-requires-clause-marks c =
    marked_on (sets_lent c.args.sets.now) c.loop-i.marks c.loop-i.start c.start_of-start.result c.loop-i.i
    c.start_of-start.ensures.which c.loop-i.invariant.marks

pub mark_next-requires-clause-before : goal.mark_next-requires-clause-before
mark_next-requires-clause-before c =
    marked_on (sets_lent c.args.sets.now) c.loop-i.marks c.loop-i.start c.start_of-start.result c.loop-i.i
    c.start_of-start.ensures.which c.loop-i.invariant.marks

pub returns-clause-mixed : goal.returns-clause-mixed
returns-clause-mixed c =
    first_of_all OnePolicy (sets_lent c.args.sets.now) c.loop-i.i _ (let auto = c.loop-i.auto.i-end in
    let same = as_many c.args.sets.now in
    omega (arith, auto, same)) (past c.args.sets.now c.loop-i.i c.loop-i-test.false) c.loop-i.invariant.mixed

pub returns-clause-same_place : goal.returns-clause-same_place
returns-clause-same_place c =
    first_of_all OwnPlace (sets_lent c.args.sets.now) c.loop-i.i _ (let auto = c.loop-i.auto.i-end in
    let same = as_many c.args.sets.now in
    omega (arith, auto, same)) (past c.args.sets.now c.loop-i.i c.loop-i-test.false) c.loop-i.invariant.same_place

pub returns-clause-full : goal.returns-clause-full
returns-clause-full c =
    full_of_all (sets_lent c.args.sets.now) c.loop-i.i c.loop-i.full c.requires (past c.args.sets.now c.loop-i.i c.loop-i-test.false)
    c.loop-i.invariant.full
