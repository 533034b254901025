use Rattle.std.proofs.Common.{sym, subst}
use Rattle.cidr_blocks.specs.Places.{StandOnce}
use Rattle.cidr_blocks.proofs.OneByOne.{once_more}
use Rattle.cidr_blocks.proofs.judging.add.Goals as goal

pub returns-in-Ok : goal.returns-in-Ok
returns-in-Ok c =
    let inserts = c.in-Ok.ensures in (
      inserts.2,
      subst StandOnce (sym inserts.2)
          (once_more c.args.table.now c.args.block c.args.name c.requires.once inserts.0),
    )
