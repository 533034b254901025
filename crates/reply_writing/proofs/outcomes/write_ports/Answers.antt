use Rattle.std.proofs.Common.{codes}
use Rattle.json.specs.Print.{escape_byte}
use Rattle.std.specs.Fmt.{decimal}
use Rattle.reply_words.proofs.Chains.{pieces_5}
use Rattle.reply_writing.proofs.outcomes.write_ports.Goals as goal

pub returns-clause-text : goal.returns-clause-text
unfolding escape_byte
returns-clause-text c =
    pieces_5 c.args.into.now.items (codes "{\"Ok\":\"Bind\",\"QueryPort\":")
    (decimal c.args.ports.now.queries) (codes ",\"ReportPort\":")
    (decimal c.args.ports.now.reports) (codes "}") c.put.ensures.text c.put_number.ensures.text
    c.put-2.ensures.text c.put_number-2.ensures.text c.put-3.ensures.text
