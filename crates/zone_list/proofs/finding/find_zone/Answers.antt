use Rattle.std.proofs.Common.{◌≡◌, ◌<◌, length, ap, arith}
use Rattle.std.proofs.lemmas.Option.{slice_get_within}
use Rattle.zone_list.specs.Kept.{named, named_of}
use Rattle.zone_list.specs.Zones.{Zone}
use Rattle.zone_list.proofs.Listing.{as_many, kept_at, not_found, one_at}
use Rattle.zone_list.proofs.finding.find_zone.Goals as goal

pub returns-then-place-list : goal.returns-then-place-list
returns-then-place-list c =
    let list = c.args.list.now in
    let many = as_many list in
    let test = c.if-place-list.true in
    not_found (named_of list) c.args.id c.requires c.first_from-place.result
    c.first_from-place.ensures
    (λ x at e. (let inside = slice_get_within (named_of list) c.first_from-place.result x at in
    omega (arith, many, test, inside)))

pub returns-then-id : goal.returns-then-id
returns-then-id c =
    let list = c.args.list.now in
    let many = as_many list in
    let test = c.if-place-list.false in
    let within = c.first_from-place.ensures.within in
    let inside : c.first_from-place.result < length list = omega (arith, many, test, within) in
    let y = c.index-list-place in
    let other = c.if-id.true in
    let its_id = c.id.ensures in
    not_found (named_of list) c.args.id c.requires c.first_from-place.result
    c.first_from-place.ensures
    (λ x at e. (let same =
    one_at (named_of list) c.first_from-place.result x (named y.result) at
    (kept_at list c.first_from-place.result y.result inside y.is) in
    let h : x.id ≡ (named y.result).id = ap (λ (z : Zone). z.id) same in
    omega (arith, h, e, other, its_id)))

pub returns : goal.returns
returns c =
    let list = c.args.list.now in
    let many = as_many list in
    let test = c.if-place-list.false in
    let within = c.first_from-place.ensures.within in
    let inside : c.first_from-place.result < length list = omega (arith, many, test, within) in
    let y = c.index-list-place in
    let same = c.if-id.false in
    let its_id = c.id.ensures in
    record {
      zone = (named y.result);
      there =
          kept_at list c.first_from-place.result y.result inside y.is;
      its_id =
          omega (arith, same, its_id);
    }
