use Rattle.std.proofs.Common.{codes}
use Rattle.json.specs.Print.{escape_byte, quoted}
use Rattle.reply_words.proofs.Chains.{pieces_3}
use Rattle.list_writing.proofs.policies.put_country.Goals as goal

pub returns-clause-text : goal.returns-clause-text
unfolding escape_byte
returns-clause-text c =
    pieces_3 c.args.into.now.items (codes "{\"CountryCode\":") (quoted c.args.country.now)
    (codes "}") c.put.ensures.text c.put_quoted.ensures.text c.put-2.ensures.text
