use Rattle.std.proofs.Common.{arith, sym, ◌∙◌, inl}
use Rattle.std.proofs.lemmas.Bool.{false≢true}
use Rattle.health_planning.proofs.Anew.{free_anew, seated_anew}
use Rattle.health_planning.proofs.seating.seat_anew.Goals as goal

pub returns-then-whole-clause-anew : goal.returns-then-whole-clause-anew
returns-then-whole-clause-anew c = record {
  all = λ e. c.seat_whole.ensures.told;
  told = λ ref p listed here same. c.seat_whole.ensures.told ref.zone p here;
  stays = λ off. absurd (false≢true (sym off ∙ c.if-whole.true));
  here = λ slot some. inl (c.seat_whole.ensures.here slot some);
}

pub clear_seats-requires-clause-room : goal.clear_seats-requires-clause-room
clear_seats-requires-clause-room c = let slots = c.slots.ensures in let room = c.requires.room in omega arith

pub seat_those-requires-clause-slots : goal.seat_those-requires-clause-slots
seat_those-requires-clause-slots c =
    let same = c.clear_gone.ensures.size ∙ c.clear_seats.ensures.free.size ∙ c.slots.ensures in
    omega arith

pub seat_those-requires-2-clause-slots : goal.seat_those-requires-2-clause-slots
seat_those-requires-2-clause-slots c =
    let same = c.seat_those.ensures.size ∙ c.clear_gone.ensures.size ∙ c.clear_seats.ensures.free.size ∙ c.slots.ensures in
    omega arith

pub seat_those-requires-3-clause-slots : goal.seat_those-requires-3-clause-slots
seat_those-requires-3-clause-slots c =
    let same = c.seat_those-2.ensures.size ∙ c.seat_those.ensures.size ∙ c.clear_gone.ensures.size ∙ c.clear_seats.ensures.free.size ∙ c.slots.ensures in
    omega arith

pub returns-clause-anew : goal.returns-clause-anew
returns-clause-anew c =
    seated_anew c.args.zones.now.zones c.args.zones.now.slots c.slots_within.ensures.within c.args.ids.now c.args.numbers.now c.args.refs.now c.args.gone.now c.args.came.now
    c.args.seats.now.items c.clear_seats.new.seats.items c.clear_gone.new.seats.items c.seat_those.new.seats.items c.seat_those-2.new.seats.items c.seat_those-3.new.seats.items
    (λ slot early. c.clear_seats.ensures.checks slot (rw c.slots.ensures early))
    (c.clear_seats.ensures.free.size ∙ c.slots.ensures) c.clear_gone.ensures.here c.clear_gone.ensures.others
    c.seat_those.ensures.told c.seat_those.ensures.stays c.seat_those.ensures.each
    c.seat_those-2.ensures.told c.seat_those-2.ensures.stays c.seat_those-2.ensures.each
    c.seat_those-3.ensures.told c.seat_those-3.ensures.stays c.seat_those-3.ensures.each
    c.args.whole c.if-whole.false

pub returns-clause-free : goal.returns-clause-free
returns-clause-free c =
    free_anew c.args.zones.now.zones c.args.zones.now.slots c.args.gone.now
    c.clear_seats.new.seats.items c.clear_gone.new.seats.items c.seat_those.new.seats.items c.seat_those-2.new.seats.items c.seat_those-3.new.seats.items
    (record { size = c.clear_seats.ensures.free.size ∙ c.slots.ensures; each = c.clear_seats.ensures.free.each })
    c.clear_gone.ensures.here c.clear_gone.ensures.others c.clear_gone.ensures.groups c.clear_gone.ensures.size
    c.seat_those.ensures.each c.seat_those.ensures.groups c.seat_those.ensures.size
    c.seat_those-2.ensures.each c.seat_those-2.ensures.groups c.seat_those-2.ensures.size
    c.seat_those-3.ensures.each c.seat_those-3.ensures.groups c.seat_those-3.ensures.size
