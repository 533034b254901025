use Rattle.std.specs.Prelude.{◌≤◌, length}
use Rattle.r53_scenarios.proofs.playing.run_len.Given as goal

abbrev pub invariant-loop-turn : goal.invariant-loop-turn
invariant-loop-turn l = l.at ≤ length l.text
