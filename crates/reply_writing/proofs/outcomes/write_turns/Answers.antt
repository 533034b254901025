use Rattle.std.proofs.Common.{codes}
use Rattle.json.specs.Print.{escape_byte}
use Rattle.std.specs.Fmt.{decimal}
use Rattle.reply_words.proofs.Chains.{pieces_13}
use Rattle.reply_writing.proofs.outcomes.write_turns.Goals as goal

pub returns-clause-text : goal.returns-clause-text
unfolding escape_byte
returns-clause-text c =
    pieces_13 c.args.into.now.items (codes "{\"Answered\":") (decimal c.args.turns.now.answered)
    (codes ",\"Ok\":\"Serve\",\"Quiet\":") (decimal c.args.turns.now.quiet)
    (codes ",\"Reports\":") (decimal c.args.turns.now.reports) (codes ",\"Silent\":")
    (decimal c.args.turns.now.silent) (codes ",\"Turns\":") (decimal c.args.turns.now.turns)
    (codes ",\"Unknown\":") (decimal c.args.turns.now.unknown) (codes "}") c.put.ensures.text
    c.put_number.ensures.text c.put-2.ensures.text c.put_number-2.ensures.text
    c.put-3.ensures.text c.put_number-3.ensures.text c.put-4.ensures.text
    c.put_number-4.ensures.text c.put-5.ensures.text c.put_number-5.ensures.text
    c.put-6.ensures.text c.put_number-6.ensures.text c.put-7.ensures.text
