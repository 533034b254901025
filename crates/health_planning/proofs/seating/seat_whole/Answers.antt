use Rattle.std.proofs.Common.{arith, ◌∙◌}
use Rattle.health_planning.proofs.Told.{bare_all, bare_free, from_bare, seats_free}
use Rattle.health_planning.proofs.seating.seat_whole.Goals as goal

pub fit_seats-requires : goal.fit_seats-requires
fit_seats-requires c =
    let cleared = c.clear.ensures.capacity in
    let slots = c.slots.ensures in
    omega arith

pub seat_all-requires-clause-bare : goal.seat_all-requires-clause-bare
seat_all-requires-clause-bare c =
    bare_all c.clear.new.self.items c.fit_seats.new.seats.items c.slots.result c.clear.ensures.items c.fit_seats.ensures.front c.fit_seats.ensures.past

pub returns-clause-here : goal.returns-clause-here
returns-clause-here c slot some =
    from_bare c.args.zones.now.zones c.fit_seats.new.seats.items c.seat_all.new.seats.items slot
    (bare_all c.clear.new.self.items c.fit_seats.new.seats.items c.slots.result c.clear.ensures.items c.fit_seats.ensures.front c.fit_seats.ensures.past slot)
    (c.seat_all.ensures.each slot) some

pub returns-clause-free : goal.returns-clause-free
returns-clause-free c = record {
  size = c.seat_all.ensures.size ∙ c.fit_seats.ensures.size ∙ c.slots.ensures;
  each = λ slot. seats_free c.args.zones.now.zones c.fit_seats.new.seats.items c.seat_all.new.seats.items slot
      (bare_free c.fit_seats.new.seats.items slot
      (bare_all c.clear.new.self.items c.fit_seats.new.seats.items c.slots.result c.clear.ensures.items c.fit_seats.ensures.front c.fit_seats.ensures.past slot))
      (c.seat_all.ensures.each slot) (c.seat_all.ensures.groups slot);
}

pub seat_all-requires-clause-slots : goal.seat_all-requires-clause-slots
seat_all-requires-clause-slots c = let size = c.fit_seats.ensures.size in let slots = c.slots.ensures in omega arith
