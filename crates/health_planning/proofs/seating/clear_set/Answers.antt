use Rattle.std.proofs.Common.{List, ap, arith, ◌∙◌, length}
use Rattle.health_planning.specs.Wired.{group_seat}
use Rattle.health_planning.specs.declared.seats.Seat.{Seat}
use Rattle.health_planning.proofs.ListedOnce.{check_beside, seat_beside, seat_here}
use Rattle.health_planning.proofs.Told.{bare_past, group_kept}
use Rattle.health_planning.proofs.seating.clear_set.Goals as goal

pub returns-then-at-len-clause-here : goal.returns-then-at-len-clause-here
returns-then-at-len-clause-here c = (bare_past c.args.seats.now.items c.args.slot (omega arith)).0

pub seat_at-seat-requires : goal.seat_at-seat-requires
seat_at-seat-requires c = let long = ap length c.deref.ensures.value in omega arith

pub returns-clause-here : goal.returns-clause-here
returns-clause-here c =
    seat_here c.args.seats.now.items c.args.slot (record { set = 0; group = c.seat_at-seat.result.group; check = 0 }) (omega arith)

pub returns-clause-others : goal.returns-clause-others
returns-clause-others c other apart =
    let seat : Seat = record { set = 0; group = c.seat_at-seat.result.group; check = 0 } in (
      seat_beside c.args.seats.now.items c.args.slot other seat apart,
      check_beside c.args.seats.now.items c.args.slot other seat apart,
    )

pub returns-clause-groups : goal.returns-clause-groups
returns-clause-groups c other =
    group_kept c.args.seats.now.items c.args.slot (record { set = 0; group = c.seat_at-seat.result.group; check = 0 }) (omega arith)
    (c.seat_at-seat.ensures.group ∙ ap (λ (l : List Seat). group_seat l c.args.slot) c.deref.ensures.value) other
