use Rattle.std.proofs.Common.{List, ap, arith, refl, ◌∙◌, inl, length}
use Rattle.health_planning.specs.Wired.{check_seat, set_seat}
use Rattle.health_planning.specs.declared.seats.Seat.{Seat}
use Rattle.health_planning.proofs.Told.{bare_free, bare_past, free_here, free_now, keeps_cleared}
use Rattle.health_planning.proofs.building.clear_one.Goals as goal

pub returns-then-at-len-clause-here : goal.returns-then-at-len-clause-here
returns-then-at-len-clause-here c =
    bare_free c.args.seats.now.items c.args.slot (bare_past c.args.seats.now.items c.args.slot (omega arith))

pub returns-then-at-len-clause-checks : goal.returns-then-at-len-clause-checks
returns-then-at-len-clause-checks c other = inl (refl, refl)

pub seat_at-requires : goal.seat_at-requires
seat_at-requires c = let long = ap length c.deref.ensures.value in omega arith

pub returns-clause-here : goal.returns-clause-here
returns-clause-here c =
    let w = c.without_valves-cleared.ensures in
    free_here c.args.seats.now.items c.args.slot c.without_valves-cleared.result (omega arith) w.own w.group

pub returns-clause-free : goal.returns-clause-free
returns-clause-free c other free =
    let w = c.without_valves-cleared.ensures in
    free_now c.args.seats.now.items c.args.slot c.without_valves-cleared.result (omega arith) w.own w.group other free

pub returns-clause-checks : goal.returns-clause-checks
returns-clause-checks c other =
    let w = c.without_valves-cleared.ensures in
    keeps_cleared c.args.seats.now.items c.args.slot c.without_valves-cleared.result (omega arith) c.seat_at.result
    (c.seat_at.ensures.set ∙ ap (λ (l : List Seat). set_seat l c.args.slot) c.deref.ensures.value)
    (c.seat_at.ensures.check ∙ ap (λ (l : List Seat). check_seat l c.args.slot) c.deref.ensures.value)
    w.check.0 w.check.1 other
