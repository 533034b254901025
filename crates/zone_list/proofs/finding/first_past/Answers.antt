use Rattle.std.proofs.Common.{◌<◌, length, arith}
use Rattle.zone_list.specs.Kept.{named, named_of}
use Rattle.zone_list.proofs.Listing.{as_many, kept_at, past_at, past_behind}
use Rattle.zone_list.proofs.finding.first_past.Goals as goal

pub returns-then-id : goal.returns-then-id
returns-then-id c =
    let list = c.args.list.now in
    let many = as_many list in
    let test = c.if-place-list.false in
    let within = c.first_from-place.ensures.within in
    let inside : c.first_from-place.result < length list = omega (arith, many, test, within) in
    let y = c.index-list-place in
    let above = c.if-id.true in
    let its_id = c.id.ensures in
    past_at (named_of list) c.args.id c.requires c.first_from-place.result (named y.result)
    c.first_from-place.ensures
    (kept_at list c.first_from-place.result y.result inside y.is) (omega (arith, above, its_id))

pub returns : goal.returns
returns c =
    let list = c.args.list.now in
    let many = as_many list in
    let test = c.if-place-list.false in
    let within = c.first_from-place.ensures.within in
    let inside : c.first_from-place.result < length list = omega (arith, many, test, within) in
    let y = c.index-list-place in
    let above = c.if-id.false in
    let its_id = c.id.ensures in
    past_behind (named_of list) c.args.id c.requires c.first_from-place.result (named y.result)
    c.first_from-place.ensures
    (kept_at list c.first_from-place.result y.result inside y.is) (omega (arith, above, its_id))
