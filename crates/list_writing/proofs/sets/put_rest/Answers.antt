use Rattle.std.proofs.Common.{codes}
use Rattle.json.specs.Print.{escape_byte, quoted}
use Rattle.list_writing.specs.Pieces.{rest_text}
use Rattle.rdata_layout.specs.Types as types
use Rattle.line_faults.specs.Texts.{text_of}
use Rattle.line_faults.specs.declared.member.Member.TheVariants as m
use Rattle.record_set.specs.Sets.{ident_of}
use Rattle.list_writing.specs.Pieces.{trailed, ident_data, list_closing, ttl_data, weight_data}
use Rattle.reply_words.proofs.Chains.{pieces_7}
use Rattle.list_writing.proofs.sets.put_rest.Goals as goal

pub returns-clause-text : goal.returns-clause-text
unfolding escape_byte rest_text
returns-clause-text c =
    pieces_7 c.args.into.now.items (list_closing c.args.alias.now)
    (trailed (text_of m.SetIdentifier) (ident_data (ident_of c.args.policy.now)))
    (trailed (text_of m.Ttl) (ttl_data c.args.alias.now c.args.ttl)) (codes ",\"Type\":")
    (quoted (types.text_of c.args.rtype))
    (trailed (text_of m.Weight) (weight_data c.args.policy.now)) (codes "}")
    c.put_closing.ensures.text c.put_ident_of.ensures.text c.put_ttl.ensures.text
    c.put.ensures.text c.put_type.ensures.text c.put_weighted.ensures.text c.put-2.ensures.text
