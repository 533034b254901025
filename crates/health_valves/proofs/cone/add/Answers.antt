use Rattle.std.proofs.Common.{◌≡◌, false, arith, ◌∙◌, sym, ap}
use Rattle.health_valves.specs.Valves.{value_in}
use Rattle.health_valves.proofs.Marks.{fewer}
use Rattle.health_valves.proofs.cone.add.Goals as goal

pub push_reserved-requires : goal.push_reserved-requires
push_reserved-requires c =
    let marks = c.args.marks.now in
    let e : value_in marks.items c.args.valve ≡ false = ap (λ l. value_in l c.args.valve) (sym c.deref.ensures.value) ∙ sym c.is_marked.ensures ∙ c.if-is_marked.false in
    let size = marks.ok.0 in
    let few = fewer marks.items c.args.valve (omega arith) e in
    let cone = c.args.cone.now in
    let listed = cone.ok.0 in
    let h = c.requires.fills.as_many in
    let r = c.requires.fills.room in
    omega arith
