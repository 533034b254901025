use Rattle.std.proofs.Common.{codes}
use Rattle.json.specs.Print.{escape_byte, quoted}
use Rattle.dns_name.specs.Written as names
use Rattle.rdata_layout.specs.Types as types
use Rattle.list_writing.specs.Pieces.{led, ident_data}
use Rattle.reply_words.proofs.Chains.{pieces_7}
use Rattle.list_writing.proofs.lists.put_next.Goals as goal

pub returns-clause-text : goal.returns-clause-text
unfolding escape_byte
returns-clause-text c =
    pieces_7 c.args.into.now.items (codes "{\"IsTruncated\":true,")
    (led (codes "NextRecordIdentifier") (ident_data c.args.next.now.ident))
    (codes "\"NextRecordName\":") (quoted (names.text_of c.args.next.now.name))
    (codes ",\"NextRecordType\":") (quoted (types.text_of c.args.next.now.rtype))
    (codes ",\"Ok\":\"ListResourceRecordSets\",\"ResourceRecordSets\":[") c.put.ensures.text
    c.put_ident.ensures.text c.put-2.ensures.text c.put_name.ensures.text c.put-3.ensures.text
    c.put_type.ensures.text c.put-4.ensures.text
