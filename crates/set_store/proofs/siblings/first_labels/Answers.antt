use Rattle.std.proofs.Common.{arith}
use Rattle.set_scratch.proofs.Fronts as keys
use Rattle.set_store.proofs.Fronts.{fronted}
use Rattle.set_store.proofs.Beside.{enough, fits, right_below}
use Rattle.set_store.proofs.siblings.first_labels.Goals as goal

pub part-requires : goal.part-requires
part-requires c =
    let it = c.requires in
    let front = fronted keys.keys_are_in_front it.2.0 it.0 it.2.1 in
    enough it.0 c.front_at-front.result.now it.2.0.name front.rest it.2.1.is.name front.named
    (c.front_at-front.ensures it.0 it.1) c.first_octet-own.result c.first_octet-own.ensures
    c.if-own-eq0.false (let f = c.if-own-ge32.false in omega (arith, f))

pub part-requires-2 : goal.part-requires-2
part-requires-2 c =
    let it = c.requires in
    let front = fronted keys.keys_are_in_front it.2.0 it.0 it.2.1 in
    fits it.0 c.front_at-front.result.now it.2.0.name front.rest it.2.1.is.name front.named
    (c.front_at-front.ensures it.0 it.1) c.first_octet-own.result c.first_octet-own.ensures
    c.if-own-eq0.false c.args.name.now c.octets-octets.result.now c.octets-octets.ensures.name
    c.octets-octets.ensures.spelled c.first_octet-size.result c.first_octet-size.ensures
    c.if-size-eq0.false

pub returns : goal.returns
returns c octets set holds spells =
    let front = fronted keys.keys_are_in_front set octets spells in
    right_below octets c.front_at-front.result.now set.name front.rest spells.is.name front.named
    (c.front_at-front.ensures octets holds) c.first_octet-own.result c.first_octet-own.ensures
    c.if-own-eq0.false c.args.name.now c.octets-octets.result.now c.octets-octets.ensures.name
    c.octets-octets.ensures.spelled c.first_octet-size.result c.first_octet-size.ensures
    c.if-size-eq0.false c.behind.result.now c.part.result.now c.part-2.result.now c.behind.ensures
    ((c.goes_on.ensures octets holds).0 (let f = c.if-not-goes_on.false in grind (arith, f)))
    c.part.ensures c.part-2.ensures (let f = c.if-own-ge32.false in omega (arith, f))
