use Rattle.std.proofs.Common.{codes, ◌∷◌}
use Rattle.json.specs.Print.{escape_byte, quoted}
use Rattle.std.specs.Fmt.{decimal}
use Rattle.dns_name.specs.Written as names
use Rattle.reply_words.proofs.Chains.{pieces_5}
use Rattle.reply_words.proofs.words.put_zone.Goals as goal

pub returns-clause-text : goal.returns-clause-text
unfolding escape_byte
returns-clause-text c =
    pieces_5 c.args.into.now.items (codes "{\"Id\":") (quoted (90 ∷ decimal c.args.id))
    (codes ",\"Name\":") (quoted (names.text_of c.args.name.now)) (codes "}") c.put.ensures.text
    c.put_id.ensures.text c.put-2.ensures.text c.put_name.ensures.text c.put-3.ensures.text
