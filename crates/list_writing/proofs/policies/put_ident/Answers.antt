use Rattle.std.proofs.Common.{codes}
use Rattle.json.specs.Print.{escape_byte, quoted}
use Rattle.reply_words.proofs.Chains.{pieces_2}
use Rattle.list_writing.proofs.policies.put_ident.Goals as goal

pub returns-clause-text : goal.returns-clause-text
unfolding escape_byte
returns-clause-text c =
    pieces_2 c.args.into.now.items (codes ",\"SetIdentifier\":") (quoted c.args.ident.now)
    c.put.ensures.text c.put_quoted.ensures.text
