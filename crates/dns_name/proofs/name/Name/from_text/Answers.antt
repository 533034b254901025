use Rattle.std.proofs.Common.{drop, arith, sym, ◌∙◌}
use Rattle.std.proofs.lemmas.Bool.{false≢true}
use Rattle.dns_name.proofs.Reading.{gives_fault, gives_labels}
use Rattle.dns_name.proofs.name.Name.from_text.Goals as goal

pub returns-in-Err : goal.returns-in-Err
returns-in-Err c =
    let i = c.loop-at.invariant in
    gives_fault c.args.text.now (drop c.loop-at.at c.args.text.now) i.done i.label c.loop-at.at _
    (λ e. absurd (false≢true (sym c.if-is_root_text.false
    ∙ c.is_root_text.ensures.1 e))) i.same (c.in-Err.ensures.err i.done i.label i.spells)

pub loop-at-preserved : goal.loop-at-preserved
loop-at-preserved c =
    let i = c.loop-at.invariant in
    let a = c.in-Ok.ensures.ok i.done i.label i.spells in
    record {
      within = a.within;
      done = a.more_done;
      label = a.more_label;
      spells = a.spells;
      same =
          i.same ∙ a.same;
    }

pub returns : goal.returns
returns c =
    let i = c.loop-at.invariant in
    gives_labels c.args.text.now i.done i.label c.loop-at.at _
    (λ e. absurd (false≢true (sym c.if-is_root_text.false
    ∙ c.is_root_text.ensures.1 e))) (omega (arith, i.within)) i.same
    (c.finish.ensures i.done i.label i.spells)
