use Rattle.std.proofs.Common.{codes, ◌∷◌}
use Rattle.json.specs.Print.{escape_byte, quoted, token_text}
use Rattle.std.specs.Fmt.{decimal}
use Rattle.json.specs.Token as token
use Rattle.reply_words.specs.Json.{check_text}
use Rattle.reply_words.specs.Json.{list_of}
use Rattle.std.specs.Prelude.{map}
use Rattle.serde_json.specs.Written.{compact_text}
use Rattle.reply_words.proofs.Chains.{pieces_11}
use Rattle.dump_writing.proofs.dump.put_calculated.Goals as goal

pub returns-clause-text : goal.returns-clause-text
unfolding escape_byte
returns-clause-text c =
    pieces_11 c.args.into.now.items (codes "{\"ChildHealthChecks\":")
    (compact_text (list_of (map check_text c.args.children.now))) (codes ",\"Disabled\":")
    (token_text (token.boolean c.args.disabled)) (codes ",\"HealthThreshold\":")
    (decimal c.args.threshold) (codes ",\"Id\":") (quoted (104 ∷ decimal c.args.id))
    (codes ",\"Inverted\":") (token_text (token.boolean c.args.inverted))
    (codes ",\"Type\":\"CALCULATED\"}") c.put.ensures.text c.put_children.ensures.text
    c.put-2.ensures.text c.put_flag.ensures.text c.put-3.ensures.text c.put_number.ensures.text
    c.put-4.ensures.text c.put_id.ensures.text c.put-5.ensures.text c.put_flag-2.ensures.text
    c.put-6.ensures.text
