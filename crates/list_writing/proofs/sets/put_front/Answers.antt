use Rattle.std.proofs.Common.{codes}
use Rattle.json.specs.Print.{escape_byte, quoted}
use Rattle.list_writing.specs.Pieces.{front_text}
use Rattle.dns_name.specs.Written as names
use Rattle.line_faults.specs.Texts.{text_of}
use Rattle.line_faults.specs.declared.member.Member.TheVariants as m
use Rattle.serde_json.specs.Written.{comma_if}
use Rattle.list_writing.specs.Pieces.{led, trailed, alias_data, early_policy, check_data, multivalue_data, region_data, list_opening}
use Rattle.reply_words.proofs.Chains.{pieces_10}
use Rattle.list_writing.proofs.sets.put_front.Goals as goal

pub returns-clause-text : goal.returns-clause-text
unfolding escape_byte front_text
returns-clause-text c =
    pieces_10 c.args.into.now.items (comma_if c.args.later) (codes "{")
    (led (text_of m.AliasTarget) (alias_data c.args.zone c.args.alias.now))
    (early_policy c.args.policy.now) (led (text_of m.HealthCheckId) (check_data c.args.check))
    (led (text_of m.MultiValueAnswer) (multivalue_data c.args.policy.now)) (codes "\"Name\":")
    (quoted (names.text_of c.args.name.now))
    (trailed (text_of m.Region) (region_data c.args.policy.now)) (list_opening c.args.alias.now)
    c.put_comma.ensures.text c.put.ensures.text c.put_alias.ensures.text
    c.put_early.ensures.text c.put_check.ensures.text c.put_multivalue.ensures.text
    c.put-2.ensures.text c.put_name.ensures.text c.put_latency.ensures.text
    c.put_opening.ensures.text
