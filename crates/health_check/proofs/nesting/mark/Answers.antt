use Rattle.std.proofs.Common.{◌≡◌, ◌+◌, suc, length, take, ap, ◌∙◌, subst, arith}
use Rattle.health_check.specs.Marks.{marks_of, with_children}
use Rattle.health_check.proofs.Marked.{first_marks, next_marks}
use Rattle.health_check.proofs.nesting.mark.Goals as goal

pub loop-step-init : goal.loop-step-init
loop-step-init c = record {
  marks = c.mark_calculated.ensures.marks
      ∙ first_marks c.args.id c.args.children.now c.args.list.now c.requires.rising;
  length = c.mark_calculated.ensures.length ∙ c.requires.room;
}

pub loop-step-preserved : goal.loop-step-preserved
loop-step-preserved c =
    let list = c.args.list.now in
    let step = c.loop-step._step in
    let next : suc step ≡ step + 1 = omega arith in
    record {
      marks = c.mark_parents.ensures.marks
          ∙ next_marks c.args.id c.args.children.now list c.requires.rising step
          c.copy_from_slice.new.self (ap (take (length list)) c.copy_from_slice.ensures.after
          ∙ c.loop-step.invariant.marks)
          ∙ ap (λ n. marks_of n (with_children c.args.id c.args.children.now list) list) next;
      length = c.mark_parents.ensures.length ∙ c.loop-step.invariant.length;
    }

pub returns-clause-marks : goal.returns-clause-marks
returns-clause-marks c =
    let list = c.args.list.now in
    let most = c.loop-step.auto._step-end in
    let least = c.loop-step-test.false in
    let all : c.loop-step._step ≡ c.args.steps = omega (arith, most, least) in
    subst (λ n. take (length list) c.loop-step.marks
    ≡ marks_of n (with_children c.args.id c.args.children.now list) list) all
    c.loop-step.invariant.marks
