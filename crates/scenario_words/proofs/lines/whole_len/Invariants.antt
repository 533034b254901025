use Rattle.std.proofs.Common.{◌≡◌, ◌+◌, drop}
use Rattle.scenario_words.specs.LineLength.{line_length}
use Rattle.scenario_words.proofs.lines.whole_len.Given as goal

abbrev pub invariant-loop-at : goal.invariant-loop-at
invariant-loop-at l = l.at + line_length (drop l.at l.text) ≡ line_length l.text
