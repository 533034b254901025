use Rattle.std.proofs.Common.{◌+◌, ◌-◌, ◌/◌, ◌<◌, length, arith}
use Rattle.zone_list.specs.Kept.{named, named_of}
use Rattle.zone_list.proofs.Listing.{as_many, kept_at, low_up, high_down}
use Rattle.zone_list.proofs.finding.halve.Goals as goal

pub returns-then-id-clause-bracket : goal.returns-then-id-clause-bracket
returns-then-id-clause-bracket c =
    let list = c.args.list.now in
    let apart = c.requires.apart in
    let within = c.requires.bracket.within in
    let many = as_many list in
    let m = c.args.low + (c.args.high - c.args.low) / 2 in
    let below : m < c.args.high = omega (arith, apart) in
    let inside : m < length list = omega (arith, below, within, many) in
    let x = c.index-list-middle in
    let its_id = c.id.ensures in
    let test = c.if-id.true in
    low_up (named_of list) c.args.id c.requires.listed c.args.low c.args.high m (named x.result)
    c.requires.bracket (omega arith) below
    (kept_at list m x.result inside x.is) (omega (arith, its_id, test))

pub returns-clause-bracket : goal.returns-clause-bracket
returns-clause-bracket c =
    let list = c.args.list.now in
    let apart = c.requires.apart in
    let within = c.requires.bracket.within in
    let many = as_many list in
    let m = c.args.low + (c.args.high - c.args.low) / 2 in
    let below : m < c.args.high = omega (arith, apart) in
    let inside : m < length list = omega (arith, below, within, many) in
    let x = c.index-list-middle in
    let its_id = c.id.ensures in
    let test = c.if-id.false in
    high_down (named_of list) c.args.id c.requires.listed c.args.low c.args.high m (named x.result)
    c.requires.bracket (omega arith) below
    (kept_at list m x.result inside x.is) (λ h. omega (arith, its_id, test, h))
