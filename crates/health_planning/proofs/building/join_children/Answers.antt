use mathlib.Core.Path.{subst}
use Rattle.std.proofs.lemmas.List.Elements.{Contains-get_or}
use Rattle.health_planning.specs.Wired.{IsValveWith}
use Rattle.health_planning.proofs.building.join_children.Goals as goal

pub unreachable-requires : goal.unreachable-requires
unreachable-requires c =
    let none = subst (IsValveWith c.args.ids.now c.args.numbers.now _) c.in_default.is c.valve_with.ensures in
    let there = c.requires.there _ (Contains-get_or c.args.children.now c.loop-child.child-index 0 c.loop-child-test.true) in
    none there.0 there.1
