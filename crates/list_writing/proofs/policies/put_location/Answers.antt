use Rattle.std.proofs.Common.{codes, ◌∷◌}
use Rattle.json.specs.Print.{escape_byte, quoted}
use Rattle.std.specs.Fmt.{decimal}
use Rattle.reply_words.proofs.Chains.{pieces_5}
use Rattle.list_writing.proofs.policies.put_location.Goals as goal

pub returns-clause-text : goal.returns-clause-text
unfolding escape_byte
returns-clause-text c =
    pieces_5 c.args.into.now.items (codes "{\"CollectionId\":")
    (quoted (99 ∷ decimal c.args.collection)) (codes ",\"LocationName\":")
    (quoted c.args.location.now) (codes "}") c.put.ensures.text c.put_id.ensures.text
    c.put-2.ensures.text c.put_quoted.ensures.text c.put-3.ensures.text
