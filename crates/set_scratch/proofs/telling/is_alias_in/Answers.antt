use Rattle.std.proofs.Common.{[]}
use Rattle.set_scratch.proofs.Told.{alone}
use Rattle.set_scratch.proofs.telling.is_alias_in.Goals as goal

pub returns : goal.returns
returns c = λ set spells.
    c.is_alias_body.ensures set.body _
    (c.body_of.ensures set [] spells.is (alone c.args.octets.now set spells))
