use Rattle.routing.specs.Texts.{is_location_byte}
use Rattle.line_words.proofs.Plain.{is_decided}
use Rattle.line_words.proofs.words.is_location_name.Goals as goal

pub returns : goal.returns
returns c = is_decided is_location_byte 16 c.args.text.now c.is_location_text.result c.is_location_text.ensures
