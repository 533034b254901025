use Rattle.std.proofs.Common.{codes}
use Rattle.json.specs.Print.{escape_byte, quoted}
use Rattle.hex.specs.Hex.{encode_lower}
use Rattle.reply_words.proofs.Chains.{pieces_3}
use Rattle.reply_writing.proofs.outcomes.write_octets.Goals as goal

pub returns-clause-text : goal.returns-clause-text
unfolding escape_byte
returns-clause-text c =
    pieces_3 c.args.into.now.items (codes "{\"Ok\":\"Query\",\"Reply\":")
    (quoted (encode_lower c.args.octets.now)) (codes "}") c.put.ensures.text
    c.put_hex.ensures.text c.put-2.ensures.text
