use Rattle.std.proofs.Common.{◌++◌}
use Rattle.dump_writing.specs.DumpOfReplyModel.{zone_line}
use Rattle.dump_sending.proofs.zones.send_name.Goals as goal

pub returns-in-Failed-clause-passes : goal.returns-in-Failed-clause-passes
returns-in-Failed-clause-passes g c = λ held rest text passed.
    c.in-Failed.ensures.passes held (zone_line c.args.zone c.args.apex.now ++ rest) text passed
