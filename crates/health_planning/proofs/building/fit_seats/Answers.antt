use Rattle.std.proofs.Common.{arith}
use Rattle.health_planning.proofs.Told.{all_trans, bare_past, seats_front}
use Rattle.health_planning.proofs.building.fit_seats.Goals as goal

pub grow_seats-requires : goal.grow_seats-requires
grow_seats-requires c = let kept = c.truncate.ensures.capacity in let room = c.requires in omega arith

pub returns-clause-size : goal.returns-clause-size
returns-clause-size c =
    let cut = c.truncate.ensures.len in
    let long = c.truncate.new.self.ok.0 in
    c.grow_seats.ensures.few (omega arith)

pub returns-clause-front : goal.returns-clause-front
returns-clause-front c slot early =
    all_trans c.args.seats.now.items c.truncate.new.self.items c.grow_seats.new.seats.items slot
    (rw c.truncate.ensures.items (seats_front c.args.slots c.args.seats.now.items slot early)) (c.grow_seats.ensures.all slot)

pub returns-clause-past : goal.returns-clause-past
returns-clause-past c slot past =
    let size = returns-clause-size c in
    bare_past c.grow_seats.new.seats.items slot (omega arith)
