use Rattle.session_server.proofs.Asked.{within}
use Rattle.drill_run.proofs.asking.ask.Goals as goal

pub returns-clause-asks : goal.returns-clause-asks
returns-clause-asks c = c.read_lines_ask.ensures c.args.line.now c.read_line.result
    c.read_line.ensures.json c.read_line.ensures.not_json

pub returns-clause-within : goal.returns-clause-within
returns-clause-within c =
    within c.read_lines_are_bounded.ensures c.read_lists_are_asked.ensures
    c.read_counts_are_some.ensures c.args.line.now c.read_line.result c.read_line.ensures.json
    c.read_line.ensures.not_json
