use Rattle.std.proofs.Common.{codes}
use Rattle.json.specs.Print.{escape_byte}
use Rattle.serde_json.specs.Written.{compact_text}
use Rattle.list_writing.specs.Pieces.{cidr_object}
use Rattle.reply_words.proofs.Chains.{pieces_3}
use Rattle.list_writing.proofs.policies.put_cidr.Goals as goal

pub returns-clause-text : goal.returns-clause-text
unfolding escape_byte
returns-clause-text c =
    pieces_3 c.args.into.now.items (codes "\"CidrRoutingConfig\":")
    (compact_text (cidr_object c.args.collection c.args.location.now)) (codes ",")
    c.put.ensures.text c.put_location.ensures.text c.put-2.ensures.text
