use Rattle.std.proofs.Common.{arith}
use Rattle.snapshot_writing.proofs.Gathered.{few_placed}
use Rattle.snapshot_writing.proofs.zones.append_zone.Goals as goal

pub append_sets-requires : goal.append_sets-requires
append_sets-requires c =
    let few = few_placed c.args.zones.now.zones c.args.zone in
    let sets = c.requires.sets in
    omega (arith, few, sets)
