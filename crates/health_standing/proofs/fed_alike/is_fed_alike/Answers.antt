use Rattle.std.proofs.Common.{◌≡◌, ◌<◌, ◌-◌, ◌+◌, ℕ, Bool, true, false, Option, List, suc, arith, length, refl, ap, sym, ◌∙◌}
use Rattle.std.specs.Prelude.{not}
use mathlib.Core.Path.{subst}
use Rattle.std.specs.Option.{option_to_list}
use Rattle.health_planning.proofs.Told.{own_suc}
use Rattle.health_planning.specs.Wired.{own_part, seat_of, set_seat}
use Rattle.health_planning.specs.declared.seats.Seat.{Seat}
use Rattle.health_valves.specs.Valves.{size_of}
use Rattle.health_standing.specs.Leaving.{IsFedByCheck, IsFedByTarget}
use Rattle.health_standing.proofs.fed_alike.is_fed_alike.Goals as goal

-- the valve that the seat in a slot tells is one of them
module _ (seats : List Seat) (slot set seat size : ℕ) (set_is : set ≡ set_seat seats slot)
    (seat_is : seat ≡ own_part set) (some : (seat ≡ 0) → ⊥)
    (seated : (slot valve : ℕ) → set_seat seats slot ≡ suc valve → valve < size) where
  one_less : seat ≡ suc (seat - 1)
  one_less = omega (arith, some)

  tells : seat_of seats slot ≡ suc (seat - 1)
  tells = ap own_part (sym set_is) ∙ sym seat_is ∙ one_less

  below : seat - 1 < size
  below = seated slot (seat - 1) (own_suc (set_seat seats slot) (seat - 1) tells)

  same : (valve : ℕ) → seat_of seats slot ≡ suc valve → valve ≡ seat - 1
  same valve is = (let e = tells in omega (arith, is, e))

pub need-requires : goal.need-requires
need-requires c = record {
  valve = below c.args.seats.now c.args.set.slot c.find_seat.result.set c.own_valve-seat.result (size_of c.args.valves.now)
      c.find_seat.ensures.set c.own_valve-seat.ensures c.if-seat-eq0.false c.requires.seated;
}

pub check_feeds-requires-clause-valve : goal.check_feeds-requires-clause-valve
check_feeds-requires-clause-valve c =
    below c.args.seats.now c.args.set.slot c.find_seat.result.set c.own_valve-seat.result (size_of c.args.valves.now)
    c.find_seat.ensures.set c.own_valve-seat.ensures c.if-seat-eq0.false c.requires.seated

pub target_feeds-requires-clause-valve : goal.target_feeds-requires-clause-valve
target_feeds-requires-clause-valve c =
    below c.args.seats.now c.args.set.slot c.find_seat.result.set c.own_valve-seat.result (size_of c.args.valves.now)
    c.find_seat.ensures.set c.own_valve-seat.ensures c.if-seat-eq0.false c.requires.seated

pub returns : goal.returns
returns c named names watches =
    let zones = c.args.zones.now.zones in
    let ids = c.args.ids.now in
    let numbers = c.args.numbers.now in
    let seats = c.args.seats.now in
    let valves = c.args.valves.now in
    let zone = c.args.set.zone in
    let slot = c.args.set.slot in
    let valve = c.own_valve-seat.result - 1 in
    let check_is : c.args.watch.check ≡ named.check = ap (λ w. w.check) watches in
    let seat = tells seats slot c.find_seat.result.set c.own_valve-seat.result (size_of valves)
    c.find_seat.ensures.set c.own_valve-seat.ensures c.if-seat-eq0.false c.requires.seated in
    let many = c.if-need-feeders_count.false ∙ c.feeders_count.ensures ∙ ap (λ (o : Option ℕ). length (option_to_list o) + 1) check_is in (
      λ so. record {
        on = sym (ap (λ w. w.evaluates) watches) ∙ not_on c.args.watch.evaluates c.if-not-watch.false;
        valve = valve;
        seat = seat;
        many = λ net own fits. sym (c.need.ensures net own fits) ∙ many;
        its_check = subst (λ (o : Option ℕ). IsFedByCheck ids numbers valves o valve) check_is
            (c.check_feeds.ensures.0 c.if-not-check_feeds.false);
        its_target = (c.target_feeds.ensures named names).0 so;
      },
      λ fed.
          let same_valve = same seats slot c.find_seat.result.set c.own_valve-seat.result (size_of valves)
          c.find_seat.ensures.set c.own_valve-seat.ensures c.if-seat-eq0.false c.requires.seated fed.valve fed.seat in
          (c.target_feeds.ensures named names).1
          (subst (λ n. IsFedByTarget zones seats valves zone named n) same_valve fed.its_target),
    )
  where
    not_on : (b : Bool) → not b ≡ false → b ≡ true
    not_on true e = refl
    not_on false e = sym e
