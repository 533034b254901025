use Rattle.scenario_words.specs.Asking.{AsksSame}
use Rattle.scenario_words.proofs.asking.take_options.Given as goal

abbrev pub invariant-words : goal.invariant-words
invariant-words l = AsksSame l.fn.query l.query
