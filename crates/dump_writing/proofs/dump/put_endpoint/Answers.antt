use Rattle.std.proofs.Common.{codes, ◌∷◌}
use Rattle.json.specs.Print.{escape_byte, quoted, token_text}
use Rattle.std.specs.Fmt.{decimal}
use Rattle.json.specs.Token as token
use Rattle.reply_words.proofs.Chains.{pieces_9}
use Rattle.dump_writing.proofs.dump.put_endpoint.Goals as goal

pub returns-clause-text : goal.returns-clause-text
unfolding escape_byte
returns-clause-text c =
    pieces_9 c.args.into.now.items (codes "{\"Disabled\":")
    (token_text (token.boolean c.args.disabled)) (codes ",\"FailureThreshold\":")
    (decimal c.args.threshold) (codes ",\"Id\":") (quoted (104 ∷ decimal c.args.id))
    (codes ",\"Inverted\":") (token_text (token.boolean c.args.inverted))
    (codes ",\"Type\":\"ENDPOINT\"}") c.put.ensures.text c.put_flag.ensures.text
    c.put-2.ensures.text c.put_number.ensures.text c.put-3.ensures.text c.put_id.ensures.text
    c.put-4.ensures.text c.put_flag-2.ensures.text c.put-5.ensures.text
