use Rattle.std.proofs.Common.{codes}
use Rattle.json.specs.Print.{escape_byte}
use Rattle.std.specs.Fmt.{decimal}
use Rattle.reply_words.proofs.Chains.{pieces_2}
use Rattle.list_writing.proofs.sets.put_seconds.Goals as goal

pub returns-clause-text : goal.returns-clause-text
unfolding escape_byte
returns-clause-text c =
    pieces_2 c.args.into.now.items (codes ",\"TTL\":") (decimal c.args.ttl) c.put.ensures.text
    c.put_number.ensures.text
