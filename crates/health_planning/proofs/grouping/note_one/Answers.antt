use Rattle.std.proofs.Common.{arith, sym, ◌∙◌}
use Rattle.health_planning.proofs.Given.{noted_more, noted_still, one_noted}
use Rattle.health_planning.proofs.grouping.note_one.Goals as goal

pub returns-then-seat-ne0-clause-noted : goal.returns-then-seat-ne0-clause-noted
returns-then-seat-ne0-clause-noted c after now others =
    noted_still c.args.members.now.items c.args.seats.now c.requires.noted c.args.set after now others
    (λ none. c.if-seat-ne0.true (c.seat_at-seat.ensures.group ∙ none))

pub returns-clause-noted : goal.returns-clause-noted
returns-clause-noted c after now others =
    rw c.push_reserved.ensures.items
    (noted_more c.args.members.now.items c.args.seats.now c.requires.noted c.args.set after now others
    (sym c.seat_at-seat.ensures.group ∙ c.if-seat-ne0.false))

pub push_reserved-requires : goal.push_reserved-requires
push_reserved-requires c =
    let more = one_noted c.args.members.now.items c.args.seats.now c.requires.noted c.args.set c.requires.slot
    (sym c.seat_at-seat.ensures.group ∙ c.if-seat-ne0.false) in
    let long = c.args.members.now.ok.0 in
    let room = c.requires.room in
    omega arith
