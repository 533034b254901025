use Rattle.std.proofs.Common.{◌-◌, ◌<◌, length, arith}
use Rattle.zone_list.specs.Kept.{named}
use Rattle.zone_list.proofs.Listing.{kept_at}
use Rattle.zone_list.proofs.finding.by_count.Goals as goal

pub returns : goal.returns
returns c =
    let list = c.args.list.now in
    let test = c.if-place-list.false in
    let inside : c.args.id - 1 < length list = omega (arith, test) in
    let y = c.index-list-place in
    let same = c.if-id.false in
    let its_id = c.id.ensures in
    record {
      zone = named y.result;
      there = kept_at list (c.args.id - 1) y.result inside y.is;
      its_id = omega (arith, same, its_id);
    }
