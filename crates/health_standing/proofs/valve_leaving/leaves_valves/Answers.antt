use Rattle.std.proofs.Common.{List, sym}
use mathlib.Core.Path.{subst}
use Rattle.health_planning.specs.SetRefRecord.{SetRef}
use Rattle.health_standing.specs.Leaving.{AllCameKeepValves}
use Rattle.health_standing.proofs.valve_leaving.leaves_valves.Goals as goal

pub returns : goal.returns
returns c =
    let came_by = AllCameKeepValves c.args.zones.now.zones c.args.ids.now c.args.numbers.now c.args.seats.now c.args.valves.now in
    let removed = c.as_slice-removed.ensures in
    let added = c.as_slice-added.ensures in
    let went = c.all_went_leave_valves.ensures.0 c.if-not-all_went_leave_valves.false in
    let came = c.all_came_leave_valves.ensures in (
      λ so. record {
        zone = c.if-delta-eq0.false;
        went = rw (removed, added) at went;
        came = rw (removed, added) at came.0 so;
      },
      λ u. came.1 (subst (λ (l : List SetRef). came_by l c.as_slice-added.result.now) (sym removed)
          (subst (λ (l : List SetRef). came_by c.args.delta.now.removed l) (sym added) u.came)),
    )
