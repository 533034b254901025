use Rattle.std.proofs.Common.{arith}
use Rattle.set_search.proofs.Typed.{starts_at}
use Rattle.set_search.proofs.groups.start_behind.Goals as goal

pub returns-then-number : goal.returns-then-number
returns-then-number g c =
    let same = c.if-number.true in
    let number = c.number.ensures in
    starts_at c.args.name.now c.args.rtype (g.S.SetList.sets c.args.sets.now) c.requires.rising
    c.args.place c.args.number c.requires.typed (omega (arith, same, number)) c.requires.before
