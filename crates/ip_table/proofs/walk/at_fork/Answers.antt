use Rattle.std.proofs.Common.{arith}
use Rattle.ip_table.specs.Bits.{width_of}
use Rattle.ip_table.proofs.Walks.{shallow}
use Rattle.ip_table.proofs.walk.at_fork.Goals as goal

pub visit-requires-clause-depth : goal.visit-requires-clause-depth
visit-requires-clause-depth c =
    omega (
      arith,
      shallow c.args.prefixes.now c.args.forks.now (width_of c.args.address) c.requires.prefixes
          c.requires.tree c.args.at c.requires.at,
      c.requires.place,
    )

pub visit-requires-clause-place : goal.visit-requires-clause-place
visit-requires-clause-place c =
    omega (
      arith,
      shallow c.args.prefixes.now c.args.forks.now (width_of c.args.address) c.requires.prefixes
          c.requires.tree c.args.at c.requires.at,
      c.requires.place,
    )
