use Rattle.std.proofs.Common.{codes}
use Rattle.json.specs.Print.{escape_byte, quoted}
use Rattle.std.specs.Fmt.{digits}
use Rattle.line_faults.specs.Texts as members
use Rattle.reply_words.proofs.Chains.{pieces_5}
use Rattle.reply_writing.proofs.errors.write_bad.Goals as goal

pub returns-clause-text : goal.returns-clause-text
unfolding escape_byte digits
returns-clause-text c =
    pieces_5 c.args.into.now.items (codes "{\"Error\":\"BadLine\",\"Member\":")
    (quoted (members.text_of c.args.member)) (codes ",\"Number\":30,\"Reason\":")
    (quoted c.args.reason.now) (codes "}") c.put.ensures.text c.put_member.ensures.text
    c.put-2.ensures.text c.put_quoted.ensures.text c.put-3.ensures.text
