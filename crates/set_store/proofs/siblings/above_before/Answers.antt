use Rattle.std.proofs.Common.{arith}
use Rattle.set_scratch.proofs.Fronts as keys
use Rattle.set_store.proofs.Fronts.{fronted}
use Rattle.set_store.proofs.Beside.{before_lower, first_fits}
use Rattle.set_store.proofs.siblings.above_before.Goals as goal

pub behind-requires : goal.behind-requires
behind-requires c =
    first_fits c.args.name.now c.octets-octets.result.now c.octets-octets.ensures.name
    c.octets-octets.ensures.spelled c.first_octet-size.result c.first_octet-size.ensures
    c.if-size-eq0.false

pub returns : goal.returns
returns c octets set holds spells =
    let front = fronted keys.keys_are_in_front set octets spells in
    before_lower c.args.name.now c.octets-octets.result.now c.octets-octets.ensures.name
    c.octets-octets.ensures.spelled c.first_octet-size.result c.first_octet-size.ensures
    c.if-size-eq0.false octets front.rest c.behind.result.now set.name spells.is.name front.named
    c.behind.ensures ((c.stands_at.ensures octets holds).0 (let f = c.if-not-stands_at.false in grind (arith, f)))
