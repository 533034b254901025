use Rattle.std.proofs.Common.{codes}
use Rattle.json.specs.Print.{escape_byte, quoted}
use Rattle.std.specs.Fmt.{decimal}
use Rattle.dns_name.specs.Written as names
use Rattle.reply_words.proofs.Chains.{pieces_7}
use Rattle.reply_writing.proofs.errors.write_error_of_name.Goals as goal

pub returns-clause-text : goal.returns-clause-text
unfolding escape_byte
returns-clause-text c =
    pieces_7 c.args.into.now.items (codes "{\"Error\":") (quoted c.args.name.now)
    (codes ",\"Name\":") (quoted (names.text_of c.args.owner.now)) (codes ",\"Number\":")
    (decimal c.args.number) (codes "}") c.put.ensures.text c.put_quoted.ensures.text
    c.put-2.ensures.text c.put_name.ensures.text c.put-3.ensures.text c.put_number.ensures.text
    c.put-4.ensures.text
