use Rattle.std.proofs.Common.{codes}
use Rattle.json.specs.Print.{escape_byte}
use Rattle.reply_words.specs.Json.{object_of}
use Rattle.reply_words.specs.Sets.{place_fields}
use Rattle.serde_json.specs.Written.{compact_text}
use Rattle.reply_words.proofs.Chains.{pieces_3}
use Rattle.list_writing.proofs.policies.put_place.Goals as goal

pub returns-clause-text : goal.returns-clause-text
unfolding escape_byte
returns-clause-text c =
    pieces_3 c.args.into.now.items (codes "\"GeoLocation\":")
    (compact_text (object_of (place_fields c.args.place.now))) (codes ",") c.put.ensures.text
    c.put_place_object.ensures.text c.put-2.ensures.text
