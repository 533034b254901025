use Rattle.std.proofs.Common.{codes}
use Rattle.json.specs.Print.{escape_byte}
use Rattle.reply_words.specs.Dump.{collection_object}
use Rattle.serde_json.specs.Written.{compact_text}
use Rattle.reply_words.proofs.Chains.{pieces_3}
use Rattle.dump_writing.proofs.collections.put_collection_alone.Goals as goal

pub returns-clause-text : goal.returns-clause-text
unfolding escape_byte
returns-clause-text c =
    pieces_3 c.args.into.now.items (codes "{\"CidrCollection\":")
    (compact_text (collection_object c.args.id c.args.collection.now)) (codes "}")
    c.put.ensures.text c.put_collection.ensures.text c.put-2.ensures.text
