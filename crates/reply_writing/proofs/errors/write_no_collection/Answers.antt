use Rattle.std.proofs.Common.{codes, ◌∷◌}
use Rattle.json.specs.Print.{escape_byte, quoted}
use Rattle.std.specs.Fmt.{digits}
use Rattle.std.specs.Fmt.{decimal}
use Rattle.reply_words.proofs.Chains.{pieces_3}
use Rattle.reply_writing.proofs.errors.write_no_collection.Goals as goal

pub returns-clause-text : goal.returns-clause-text
unfolding escape_byte digits
returns-clause-text c =
    pieces_3 c.args.into.now.items (codes "{\"CollectionId\":")
    (quoted (99 ∷ decimal c.args.id))
    (codes ",\"Error\":\"NoSuchCidrCollection\",\"Number\":43}") c.put.ensures.text
    c.put_id.ensures.text c.put-2.ensures.text
