use Rattle.std.proofs.Common.{codes}
use Rattle.json.specs.Print.{escape_byte}
use Rattle.std.specs.Fmt.{decimal}
use Rattle.reply_words.proofs.Chains.{pieces_3}
use Rattle.reply_writing.proofs.outcomes.write_left.Goals as goal

pub returns-clause-text : goal.returns-clause-text
unfolding escape_byte
returns-clause-text c =
    pieces_3 c.args.into.now.items (codes "{\"Left\":") (decimal c.args.left)
    (codes ",\"Ok\":\"Compact\"}") c.put.ensures.text c.put_number.ensures.text
    c.put-2.ensures.text
