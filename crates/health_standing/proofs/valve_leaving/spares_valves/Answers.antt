use Rattle.std.proofs.Common.{List, sym, ◌∙◌}
use Rattle.std.proofs.lemmas.Bool.{false≢true}
use mathlib.Core.Path.{subst}
use Rattle.health_planning.specs.SetRefRecord.{SetRef}
use Rattle.health_standing.specs.Leaving.{AllCameBeside, AllWentBeside}
use Rattle.health_standing.proofs.valve_leaving.spares_valves.Goals as goal

pub returns : goal.returns
returns c =
    let zones = c.args.zones.now.zones in
    let seats = c.args.seats.now in
    let removed = c.as_slice.ensures in
    let added = c.as_slice-2.ensures in
    let went = c.all_went_beside.ensures.0 c.if-not-all_went_beside.false in
    let came = c.all_came_beside.ensures in (
      λ so. record {
        zone = c.if-delta-eq0.false;
        went = rw removed at went;
        came = rw added at came.0 so;
      },
      λ u. came.1 (subst (λ (l : List SetRef). AllCameBeside zones seats l) (sym added) u.came),
    )

pub returns-then-not-all_went_beside : goal.returns-then-not-all_went_beside
returns-then-not-all_went_beside c =
    let seats = c.args.seats.now in
    let removed = c.as_slice.ensures in (
      λ t. absurd (false≢true t),
      λ u. absurd (false≢true (sym c.if-not-all_went_beside.true
          ∙ c.all_went_beside.ensures.1 (subst (λ (l : List SetRef). AllWentBeside seats l) (sym removed) u.went))),
    )
