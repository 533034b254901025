use Rattle.std.proofs.Common.{codes}
use Rattle.json.specs.Print.{escape_byte}
use Rattle.serde_json.specs.Written.{compact_text}
use Rattle.list_writing.specs.Pieces.{alias_object}
use Rattle.reply_words.proofs.Chains.{pieces_3}
use Rattle.list_writing.proofs.sets.put_target.Goals as goal

pub returns-clause-text : goal.returns-clause-text
unfolding escape_byte
returns-clause-text c =
    pieces_3 c.args.into.now.items (codes "\"AliasTarget\":")
    (compact_text (alias_object c.args.zone c.args.target.now c.args.evaluate)) (codes ",")
    c.put.ensures.text c.put_target_object.ensures.text c.put-2.ensures.text
