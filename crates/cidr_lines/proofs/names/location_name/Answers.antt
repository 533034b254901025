use Rattle.routing.specs.Texts.{is_location_byte}
use Rattle.line_words.proofs.Plain.{decided}
use Rattle.cidr_lines.proofs.names.location_name.Goals as goal

pub returns : goal.returns
returns c =
    decided is_location_byte 16 c.args.text.now c.location_ident.result c.location_ident.ensures
