use Rattle.std.proofs.Common.{codes}
use Rattle.json.specs.Print.{escape_byte}
use Rattle.reply_words.specs.Dump.{zone_object}
use Rattle.serde_json.specs.Written.{compact_text}
use Rattle.reply_words.proofs.Chains.{pieces_3}
use Rattle.reply_writing.proofs.outcomes.write_zone_made.Goals as goal

pub returns-clause-text : goal.returns-clause-text
unfolding escape_byte
returns-clause-text c =
    pieces_3 c.args.into.now.items (codes "{\"HostedZone\":")
    (compact_text (zone_object c.args.id c.args.name.now))
    (codes ",\"Ok\":\"CreateHostedZone\"}") c.put.ensures.text c.put_zone.ensures.text
    c.put-2.ensures.text
