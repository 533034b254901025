use Rattle.std.proofs.Common.{codes, ◌∷◌}
use Rattle.json.specs.Print.{escape_byte}
use Rattle.std.specs.Fmt.{decimal}
use Rattle.serde_json.specs.Data.{string}
use Rattle.serde_json.specs.Written.{compact_text}
use Rattle.reply_words.specs.Pieces.{id_object}
use Rattle.reply_words.proofs.Chains.{pieces_3}
use Rattle.reply_writing.proofs.outcomes.write_collection_made.Goals as goal

pub returns-clause-text : goal.returns-clause-text
unfolding escape_byte
returns-clause-text c =
    pieces_3 c.args.into.now.items (codes "{\"Collection\":")
    (compact_text (id_object (string (99 ∷ decimal c.args.id))))
    (codes ",\"Ok\":\"CreateCidrCollection\"}") c.put.ensures.text c.put_id_object.ensures.text
    c.put-2.ensures.text
