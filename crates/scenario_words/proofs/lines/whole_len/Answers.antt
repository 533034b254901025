use Rattle.std.proofs.Common.{◌≡◌, ◌+◌, ◌∙◌, ap, arith, drop, sym}
use Rattle.scenario_words.specs.LineLength.{ends_line, line_length}
use Rattle.scenario_words.proofs.Ending.{passed}
use Rattle.scenario_words.proofs.lines.whole_len.Goals as goal

pub loop-at-preserved : goal.loop-at-preserved
loop-at-preserved c =
    let at = c.loop-at.at in
    let text = c.args.text.now in
    let so_far : at + line_length (drop at text) ≡ line_length text = c.loop-at.invariant in
    let goes_on = passed at text c.loop-at-test.true
    (ap ends_line (sym c.behind.ensures) ∙ sym c.if-ends_line.ensures) in
    let further : (at + 1) + line_length (drop (at + 1) text) ≡ line_length text =
    omega (arith, so_far, goes_on) in
    further
