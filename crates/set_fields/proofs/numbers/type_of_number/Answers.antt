use Rattle.set_fields.proofs.Numbered.{type_found}
use Rattle.set_fields.proofs.numbers.type_of_number.Goals as goal

pub returns : goal.returns
returns c =
    type_found c.args.n c.from_number.result c.from_number.ensures.some c.from_number.ensures.none
