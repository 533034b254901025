use Rattle.std.proofs.Common.{codes, ◌∷◌}
use Rattle.json.specs.Print.{escape_byte, quoted, token_text}
use Rattle.std.specs.Fmt.{decimal}
use Rattle.dns_name.specs.Written as names
use Rattle.json.specs.Token as token
use Rattle.reply_words.proofs.Chains.{pieces_7}
use Rattle.list_writing.proofs.sets.put_target_object.Goals as goal

pub returns-clause-text : goal.returns-clause-text
unfolding escape_byte
returns-clause-text c =
    pieces_7 c.args.into.now.items (codes "{\"DNSName\":")
    (quoted (names.text_of c.args.target.now)) (codes ",\"EvaluateTargetHealth\":")
    (token_text (token.boolean c.args.evaluate)) (codes ",\"HostedZoneId\":")
    (quoted (90 ∷ decimal c.args.zone)) (codes "}") c.put.ensures.text c.put_name.ensures.text
    c.put-2.ensures.text c.put_flag.ensures.text c.put-3.ensures.text c.put_id.ensures.text
    c.put-4.ensures.text
