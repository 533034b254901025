use Rattle.std.proofs.Common.{◌<◌, length, sym, subst, arith}
use Rattle.zone_list.specs.Kept.{named, named_of}
use Rattle.zone_list.specs.Found.{IsNextZone}
use Rattle.zone_list.proofs.Listing.{as_many, kept_at, next_zone, no_next}
use Rattle.zone_list.proofs.finding.next_id.Goals as goal

pub returns-then-place-list : goal.returns-then-place-list
returns-then-place-list c =
    let list = c.args.list.now in
    let many = as_many list in
    let test = c.if-place-list.true in
    no_next (named_of list) c.args.id c.requires c.first_past-place.result
    c.first_past-place.ensures (omega (arith, many, test))

pub returns : goal.returns
returns c =
    let list = c.args.list.now in
    let many = as_many list in
    let test = c.if-place-list.false in
    let within = c.first_past-place.ensures.within in
    let inside : c.first_past-place.result < length list = omega (arith, many, test, within) in
    let y = c.index-list-place in
    subst (λ n. IsNextZone (named_of list) c.args.id n) (sym c.id.ensures)
    (next_zone (named_of list) c.args.id c.requires c.first_past-place.result (named y.result)
    c.first_past-place.ensures (kept_at list c.first_past-place.result y.result inside y.is))
