use Rattle.std.proofs.Common.{codes}
use Rattle.json.specs.Print.{escape_byte, quoted}
use Rattle.line_faults.specs.Texts as members
use Rattle.reply_words.proofs.Chains.{pieces_3}
use Rattle.reply_writing.proofs.outcomes.write_done.Goals as goal

pub returns-clause-text : goal.returns-clause-text
unfolding escape_byte
returns-clause-text c =
    pieces_3 c.args.into.now.items (codes "{\"Ok\":") (quoted (members.text_of c.args.line))
    (codes "}") c.put.ensures.text c.put_member.ensures.text c.put-2.ensures.text
