use Rattle.std.proofs.Common.{refl}
use Rattle.check_commands.proofs.Sums.{some_counted}
use Rattle.check_commands.proofs.counting.is_counted.Goals as goal

pub returns-in-Some : goal.returns-in-Some
returns-in-Some c =
    let p = c.in-Some.ensures in (
      λ yes. some_counted c.args.uses.now c.in-Some.field-0 c.args.check p.0 p.1 p.2 p.3,
      λ some. refl,
    )
