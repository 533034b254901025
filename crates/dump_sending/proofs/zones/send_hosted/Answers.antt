use Rattle.std.proofs.Common.{◌++◌}
use Rattle.dump_sending.specs.Dumps.{sets_text}
use Rattle.dump_writing.specs.DumpOfReplyModel.{zone_line}
use Rattle.set_sending.proofs.Passed.{regroup}
use Rattle.config_zones.specs.Zones.{placed_in}
use Rattle.zone_model.specs.Slotted.{sets_of}
use Rattle.dump_sending.proofs.zones.send_hosted.Goals as goal

pub returns-in-Failed-clause-passes : goal.returns-in-Failed-clause-passes
returns-in-Failed-clause-passes g c = λ held rest text passed.
    let zone = c.args.zone in
    let sets = sets_text zone (sets_of (placed_in c.args.zones.now.zones zone)) in
    c.in-Failed.ensures.passes held (sets ++ rest) text
    (regroup held _ _ (zone_line zone c.args.apex.now) sets rest text passed)

pub returns-in-Whole-clause-passes : goal.returns-in-Whole-clause-passes
returns-in-Whole-clause-passes g c = λ held rest text passed.
    let zone = c.args.zone in
    let sets = sets_text zone (sets_of (placed_in c.args.zones.now.zones zone)) in
    c.send_sets.ensures.passes held rest text
    (c.in-Whole.ensures.passes held (sets ++ rest) text
    (regroup held _ _ (zone_line zone c.args.apex.now) sets rest text passed))
