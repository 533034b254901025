use Rattle.std.proofs.Common.{codes}
use Rattle.json.specs.Print.{escape_byte, token_text}
use Rattle.std.specs.Fmt.{decimal}
use Rattle.json.specs.Token as token
use Rattle.reply_words.proofs.Chains.{pieces_5}
use Rattle.reply_writing.proofs.outcomes.write_status.Goals as goal

pub returns-clause-text : goal.returns-clause-text
unfolding escape_byte
returns-clause-text c =
    pieces_5 c.args.into.now.items (codes "{\"Healthy\":")
    (token_text (token.boolean c.args.healthy))
    (codes ",\"Ok\":\"GetHealthCheckStatus\",\"Passing\":") (decimal c.args.passing) (codes "}")
    c.put.ensures.text c.put_flag.ensures.text c.put-2.ensures.text c.put_number.ensures.text
    c.put-3.ensures.text
