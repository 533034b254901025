use Rattle.std.proofs.Common.{arith}
use Rattle.set_octets.specs.Texts.{is_subdivision_byte}
use Rattle.set_fields.proofs.Textual.{text_stands}
use Rattle.set_fields.proofs.texts.sub_at.Goals as goal

pub returns-in_default : goal.returns-in_default
returns-in_default c =
    absurd (c.in_default.ensures
    (text_stands is_subdivision_byte 3 c.args.bytes.now c.in_ok-text.text.now
    c.in_ok-text.rest.now
    (λ i. omega (arith, c.type_inv.bytes i)) c.in_ok-text.ensures))
