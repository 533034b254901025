use Rattle.std.proofs.Common.{ap, sym, ◌∙◌}
use Rattle.std.proofs.lemmas.Option.{slice_get_read}
use mathlib.Core.Path.{subst}
use Rattle.std.proofs.Common.{refl}
use Rattle.check_model.specs.Checks.{children_of}
use Rattle.health_planning.specs.Building.{AreThere}
use Rattle.health_planning.proofs.building.join_checks.Goals as goal

pub join_children-requires-clause-there : goal.join_children-requires-clause-there
join_children-requires-clause-there c =
    let held = c.index-list-place.result in
    let at = slice_get_read c.args.list.now _ c.loop-place.place held refl c.loop-place-test.true c.index-list-place.is in
    let are = c.requires.there c.loop-place.place held.0 held.1 at in
    let same = ap children_of c.in-Calculated.is ∙ sym c.as_slice-children.ensures in
    subst (AreThere c.args.ids.now) same are
