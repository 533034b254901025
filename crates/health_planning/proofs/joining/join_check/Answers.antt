use mathlib.Core.Path.{subst}
use Rattle.health_planning.specs.Wired.{IsValveWith}
use Rattle.health_planning.proofs.joining.join_check.Goals as goal

pub unreachable-requires : goal.unreachable-requires
unreachable-requires c =
    let none = subst (IsValveWith c.args.ids.now c.args.numbers.now c.in-Some.id) c.in_default-valve_with.is c.valve_with.ensures in
    let there = c.requires.there c.in-Some.id c.in-Some.is in
    none there.0 there.1
