use Rattle.std.proofs.Common.{codes, ◌∷◌}
use Rattle.json.specs.Print.{escape_byte, quoted}
use Rattle.std.specs.Fmt.{decimal}
use Rattle.reply_words.proofs.Chains.{pieces_3}
use Rattle.reply_words.proofs.words.put_id_object.Goals as goal

pub returns-clause-text : goal.returns-clause-text
unfolding escape_byte
returns-clause-text c =
    pieces_3 c.args.into.now.items (codes "{\"Id\":")
    (quoted (c.args.letter ∷ decimal c.args.id)) (codes "}") c.put.ensures.text
    c.put_id.ensures.text c.put-2.ensures.text
