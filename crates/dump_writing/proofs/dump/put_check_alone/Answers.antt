use Rattle.std.proofs.Common.{codes}
use Rattle.json.specs.Print.{escape_byte}
use Rattle.reply_words.specs.Dump.{check_object}
use Rattle.serde_json.specs.Written.{compact_text}
use Rattle.reply_words.proofs.Chains.{pieces_3}
use Rattle.dump_writing.proofs.dump.put_check_alone.Goals as goal

pub returns-clause-text : goal.returns-clause-text
unfolding escape_byte
returns-clause-text c =
    pieces_3 c.args.into.now.items (codes "{\"HealthCheck\":")
    (compact_text (check_object c.args.id c.args.check.now)) (codes "}") c.put.ensures.text
    c.put_check.ensures.text c.put-2.ensures.text
