use Rattle.std.proofs.Common.{◌++◌}
use Rattle.dump_writing.specs.DumpOfReplyModel.{collection_line}
use Rattle.dump_sending.proofs.collections.send_collection.Goals as goal

pub returns-in-Failed-clause-passes : goal.returns-in-Failed-clause-passes
returns-in-Failed-clause-passes g c = λ held rest text passed.
    let it = c.args.held.now in
    c.in-Failed.ensures.passes held (collection_line it.0 it.1 ++ rest) text passed
