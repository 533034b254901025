use Rattle.std.proofs.Common.{arith}
use Rattle.health_planning.proofs.Anew.{seated_beside}
use Rattle.health_planning.proofs.seating.seat_beside.Goals as goal

pub grow_seats-requires : goal.grow_seats-requires
grow_seats-requires c = let slots = c.slots.ensures in let room = c.requires.room in omega arith

pub seat_those-requires-clause-slots : goal.seat_those-requires-clause-slots
seat_those-requires-clause-slots c =
    let least = c.grow_seats.ensures.least in
    let slots = c.slots.ensures in
    let same = c.clear_gone.ensures.size in
    omega arith

pub seat_those-requires-2-clause-slots : goal.seat_those-requires-2-clause-slots
seat_those-requires-2-clause-slots c =
    let least = c.grow_seats.ensures.least in
    let slots = c.slots.ensures in
    let same = c.clear_gone.ensures.size in
    let same_too = c.seat_those.ensures.size in
    omega arith

pub returns-clause-beside : goal.returns-clause-beside
returns-clause-beside c =
    seated_beside c.args.zones.now.zones c.args.ids.now c.args.numbers.now c.args.gone.now c.args.came.now
    c.args.seats.now.items c.grow_seats.new.seats.items c.clear_gone.new.seats.items c.seat_those.new.seats.items c.seat_those-2.new.seats.items
    c.grow_seats.ensures.all c.clear_gone.ensures.here c.clear_gone.ensures.others c.clear_gone.ensures.groups
    c.seat_those.ensures.told c.seat_those.ensures.stays c.seat_those.ensures.others c.seat_those.ensures.each c.seat_those.ensures.groups
    c.seat_those-2.ensures.told c.seat_those-2.ensures.stays c.seat_those-2.ensures.others c.seat_those-2.ensures.each c.seat_those-2.ensures.groups
