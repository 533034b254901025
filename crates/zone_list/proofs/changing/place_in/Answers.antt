use Rattle.std.proofs.Common.{length, subst}
use Rattle.zone_list.specs.Steps.{FoundBetween}
use Rattle.zone_list.proofs.Looking.{in_both}
use Rattle.zone_list.proofs.changing.place_in.Goals as goal

pub returns-in-None : goal.returns-in-None
returns-in-None c =
    let add = c.args.add.now in
    in_both add c.args.key.now c.min-middle.result c.first_of-in-None.result
    (subst (λ found. FoundBetween add c.args.key.now c.min-middle.result (length add) found)
    c.in-None.is c.first_of.ensures) c.first_of-in-None.ensures
