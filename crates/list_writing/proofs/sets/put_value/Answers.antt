use Rattle.std.proofs.Common.{codes}
use Rattle.json.specs.Print.{escape_byte, quoted}
use Rattle.list_writing.specs.Pieces.{value_piece}
use Rattle.rdata.specs.Written as value
use Rattle.serde_json.specs.Written.{comma_if}
use Rattle.reply_words.proofs.Chains.{pieces_4}
use Rattle.list_writing.proofs.sets.put_value.Goals as goal

pub returns-clause-text : goal.returns-clause-text
unfolding escape_byte value_piece
returns-clause-text c =
    pieces_4 c.args.into.now.items (comma_if c.args.later) (codes "{\"Value\":")
    (quoted (value.text_of c.args.rtype c.args.wire.now)) (codes "}") c.put_comma.ensures.text
    c.put.ensures.text c.put_value_text.ensures.text c.put-2.ensures.text
