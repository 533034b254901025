use Rattle.std.proofs.Common.{ap, arith}
use Rattle.config_zones.specs.Batches.{is_over_zone}
use Rattle.batch_commands.proofs.Counted.{as_many, counted, few_gone, part_is}
use Rattle.batch_commands.proofs.sizes.is_zone_full.Goals as goal

pub left_with-requires-clause-gone : goal.left_with-requires-clause-gone
left_with-requires-clause-gone c =
    let zones = c.args.zones.now.zones in
    let few = few_gone zones c.well_formed-2.ensures c.args.zone c.args.remove.now c.args.add.now
    c.requires.allowed in
    let many = as_many zones c.well_formed-2.ensures c.args.zone c.args.remove.now c.args.add.now
    c.requires.allowed in
    let count = c.count-count.ensures in
    omega (arith, few, many, count)

pub left_with-requires-clause-few : goal.left_with-requires-clause-few
left_with-requires-clause-few c =
    let zones = c.args.zones.now.zones in
    let many = as_many zones c.well_formed-2.ensures c.args.zone c.args.remove.now c.args.add.now
    c.requires.allowed in
    let part = part_is zones c.well_formed-2.ensures c.args.zone c.args.remove.now c.args.add.now
    c.requires.allowed c.counts_agree.ensures in
    let count = c.count-count.ensures in
    let all = c.requires.sets in
    let few = c.how_many-come.ensures.few in
    omega (arith, many, part, count, all, few)

pub returns : goal.returns
returns c =
    let zones = c.args.zones.now.zones in
    let after = counted zones c.well_formed-2.ensures c.args.zone c.args.remove.now c.args.add.now
    c.requires.allowed in
    let many = as_many zones c.well_formed-2.ensures c.args.zone c.args.remove.now c.args.add.now
    c.requires.allowed in
    let count = c.count-count.ensures in
    let come = c.how_many-come.ensures.count in
    let left = c.left_with.ensures in
    ap is_over_zone (omega (arith, after, many, count, come, left))
