use Rattle.std.proofs.Common.{sym, ◌∙◌, inl, inr}
use mathlib.Core.Path.{subst}
use Rattle.std.proofs.lemmas.Bool.{false≢true}
use Rattle.health_planning.proofs.Members.{one_named}
use Rattle.health_planning.specs.Looking.{Watches}
use Rattle.health_standing.specs.Leaving.{IsAsSeated}
use Rattle.health_standing.proofs.valve_leaving.is_as_seated.Goals as goal

pub returns-else-is_as_told : goal.returns-else-is_as_told
returns-else-is_as_told c =
    let zones = c.args.zones.now.zones in
    let ids = c.args.ids.now in
    let numbers = c.args.numbers.now in
    let seats = c.args.seats.now in
    let valves = c.args.valves.now in
    let w = subst (Watches zones c.args.set) c.in-Some.is c.watch.ensures in
    let told = c.is_as_told.ensures seats c.args.set.slot w.0 c.find_seat.ensures w.2 in
    let fed = c.is_fed_alike.ensures w.0 w.1 w.2 in (
      λ so. (w.0, w.1, inr (fed.0 so)),
      λ x. elim (subst (IsAsSeated zones ids numbers seats valves c.args.set)
          (one_named zones c.args.set x.0 w.0 c.well_formed-2.ensures x.1 w.1) x.2) [
            | inl as_told ↦ absurd (false≢true (sym c.if-is_as_told.false ∙ told.1 as_told))
            | inr as_fed ↦ fed.1 as_fed
          ],
    )
