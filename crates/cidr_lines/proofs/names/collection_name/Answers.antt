use Rattle.routing.specs.Texts.{is_location_byte}
use Rattle.line_words.proofs.Plain.{decided}
use Rattle.cidr_lines.proofs.names.collection_name.Goals as goal

pub returns : goal.returns
returns c =
    decided is_location_byte 64 c.args.text.now c.collection_ident.result c.collection_ident.ensures
