use Rattle.std.proofs.Common.{◌∙◌, ap, sym, Some}
use Rattle.set_scratch.proofs.Placed.{value_there}
use Rattle.set_scratch.proofs.parts.value_at.Goals as goal

pub returns : goal.returns
returns c = λ at values after starts there.
    let octets = c.args.octets.now in
    let found = value_there octets at c.args.starts.now values starts after c.args.i 0 c.requires there in
    found.is ∙ ap Some (sym (c.wire_in.ensures found.value found.rest (c.past.ensures ∙ found.stands)))
