use Rattle.std.proofs.Common.{List, ap, length-set, ◌∙◌}
use Rattle.health_planning.specs.Wired.{check_seat, set_seat}
use Rattle.health_planning.specs.declared.seats.Seat.{Seat}
use Rattle.health_planning.proofs.Grouped.{group_beside, its_seat, same_sets, seat_now}
use Rattle.health_planning.proofs.grouping.seat_one.Goals as goal

pub returns : goal.returns
returns c =
    let seats = c.args.seats.now.items in
    let slot = c.args.slot in
    let set_is = c.seat_at-seat.ensures.set ∙ ap (λ (l : List Seat). set_seat l slot) c.deref.ensures.value in
    let check_is = c.seat_at-seat.ensures.check ∙ ap (λ (l : List Seat). check_seat l slot) c.deref.ensures.value in
    rw (set_is, check_is) (record {
      sets = same_sets seats slot c.args.valve c.requires;
      size = length-set seats slot (its_seat seats slot c.args.valve c.requires);
      here = seat_now seats slot c.args.valve c.requires;
      others = group_beside seats slot c.args.valve c.requires;
    })
