use Rattle.std.proofs.Common.{◌≡◌, ◌<◌, ◌-◌, ℕ, zero, suc, List, Option, Some, arith, refl, ap, sym, ◌∙◌}
use Rattle.std.specs.Prelude.{All}
use Rattle.std.proofs.lemmas.Bool.{false≢true}
use mathlib.Core.Path.{subst}
use Rattle.health_planning.proofs.Members.{one_named}
use Rattle.health_planning.proofs.Wiring.{first_same}
use Rattle.health_planning.specs.Telling.{watch_of}
use Rattle.health_planning.specs.Wired.{AreMembers, group_seat}
use Rattle.health_planning.specs.Zones.{AreZones, Zone}
use Rattle.health_planning.specs.declared.seats.Seat.{Seat}
use Rattle.health_standing.specs.Leading.{ComesToLead, HasItsCheck, HasTargetSeat, IsTargetSeat, feeders_with, listed_in}
use Rattle.health_standing.specs.declared.alias_coming.AliasFeeders.{AliasFeeders}
use Rattle.health_valves.specs.Valves.{size_of}
use Rattle.health_valves.specs.declared.valves.Valves.{Valves}
use Rattle.health_planning.specs.SetRefRecord.{SetRef}
use Rattle.rdata_layout.specs.declared.types.RType.{RType}
use Rattle.record_set.specs.declared.sets.RecordSet.{RecordSet}
use Rattle.health_standing.proofs.alias_coming.alias_come.Goals as goal

some_same : {X : Type 0} {x y : X} → Some x ≡ Some y → x ≡ y
some_same e = cc

-- a target group has one valve
one_target : (zones : List Zone) → AreZones zones → (seats : List Seat) (zone : ℕ) (set : RecordSet) (a b : ℕ)
    → HasTargetSeat zones seats zone set a → HasTargetSeat zones seats zone set b → a ≡ b
one_target zones are_zones seats zone set a b x y =
    let both : ◌≡◌ {A = List (List ℕ) × RType} (x.name, x.rtype) (y.name, y.rtype) = some_same (sym x.target ∙ y.target) in
    let are = subst (λ (t : List (List ℕ) × RType). AreMembers zones zone t.0 t.1 y.members) (sym both) y.are in
    let slots = first_same zones are_zones zone x.name x.rtype x.members y.members x.seat.0 y.seat.0 x.are x.seat.1.0 are y.seat.1.0 in
    let same = ap (group_seat seats) slots in
    let first = x.seat.1.1 in
    let second = y.seat.1.1 in
    omega (arith, same, first, second)

told_is : (zones : List Zone) → AreZones zones → (seats : List Seat) (zone : ℕ) (set : RecordSet) (told group : ℕ)
    → IsTargetSeat zones seats zone set told → HasTargetSeat zones seats zone set group → told ≡ suc group
told_is zones are_zones seats zone set zero group none has = absurd (none group has)
told_is zones are_zones seats zone set (suc other) group is has =
    ap suc (one_target zones are_zones seats zone set other group is has)

-- so what the code tells are the valves that are wanted
listed_is : (zones : List Zone) (are_zones : AreZones zones) (ids numbers : List ℕ) (seats : List Seat)
    (valves : Valves) (ref : SetRef) (feeders : List ℕ) (comes : ComesToLead zones ids numbers seats valves ref feeders)
    (check : Option ℕ) → check ≡ comes.set.check → (told : ℕ) → IsTargetSeat zones seats ref.zone comes.set told
    → (its : AliasFeeders) → listed_in its ≡ feeders_with ids numbers check (told - 1) → listed_in its ≡ feeders
listed_is zones are_zones ids numbers seats valves ref feeders comes check same told is its listed =
    let up = told_is zones are_zones seats ref.zone comes.set told comes.group is comes.its_target in
    let one : told - 1 ≡ comes.group = omega (arith, up) in
    listed ∙ ap (λ (c : Option ℕ). feeders_with ids numbers c (told - 1)) same
    ∙ ap (feeders_with ids numbers comes.set.check) one ∙ sym comes.are

pub returns-in_default-clause-all : goal.returns-in_default-clause-all
returns-in_default-clause-all c feeders comes = absurd (c.in_default.ensures.none refl (record {
  set = comes.set;
  names = comes.names;
  on = comes.on;
  bare = comes.bare;
  none = comes.none;
  alone = comes.alone;
  many = comes.many;
}))

pub returns-then-told-eq0-clause-all : goal.returns-then-told-eq0-clause-all
returns-then-told-eq0-clause-all c feeders comes =
    let zones = c.args.zones.now.zones in
    let none = subst (IsTargetSeat zones c.args.seats.now c.args.set.zone comes.set) c.if-told-eq0.true
    (c.target_seat-told.ensures comes.set comes.names) in
    absurd (none comes.group comes.its_target)

pub returns-in_default-feeders_from-clause-all : goal.returns-in_default-feeders_from-clause-all
returns-in_default-feeders_from-clause-all c feeders comes =
    let zones = c.args.zones.now.zones in
    let t = c.in-Some.ensures.found c.in-Some.watch refl in
    let same = one_named zones c.args.set t.0.set comes.set c.well_formed-2.ensures t.0.names comes.names in
    let check : c.in-Some.watch.check ≡ comes.set.check = ap (λ w. w.check) (t.1 ∙ ap watch_of same) in
    absurd (c.in_default-feeders_from.ensures.none refl (subst (HasItsCheck c.args.ids.now) (sym check) comes.its_check))

pub returns-then-not-are_within-clause-all : goal.returns-then-not-are_within-clause-all
returns-then-not-are_within-clause-all c feeders comes =
    let zones = c.args.zones.now.zones in
    let t = c.in-Some.ensures.found c.in-Some.watch refl in
    let same = one_named zones c.args.set t.0.set comes.set c.well_formed-2.ensures t.0.names comes.names in
    let check : c.in-Some.watch.check ≡ comes.set.check = ap (λ w. w.check) (t.1 ∙ ap watch_of same) in
    let one = listed_is zones c.well_formed-2.ensures c.args.ids.now c.args.numbers.now c.args.seats.now c.args.valves.now c.args.set feeders comes
    c.in-Some.watch.check check c.target_seat-told.result (c.target_seat-told.ensures comes.set comes.names)
    c.in-Some-feeders_from.feeders (c.in-Some-feeders_from.ensures.found c.in-Some-feeders_from.feeders refl).1 in
    absurd (false≢true (sym c.if-not-are_within.true
    ∙ c.are_within.ensures.1 (subst (λ (l : List ℕ). All (λ x. x < size_of c.args.valves.now) l) (sym one) comes.within)))

pub returns-clause-all : goal.returns-clause-all
returns-clause-all c feeders comes =
    let zones = c.args.zones.now.zones in
    let t = c.in-Some.ensures.found c.in-Some.watch refl in
    let same = one_named zones c.args.set t.0.set comes.set c.well_formed-2.ensures t.0.names comes.names in
    let check : c.in-Some.watch.check ≡ comes.set.check = ap (λ w. w.check) (t.1 ∙ ap watch_of same) in
    let one = listed_is zones c.well_formed-2.ensures c.args.ids.now c.args.numbers.now c.args.seats.now c.args.valves.now c.args.set feeders comes
    c.in-Some.watch.check check c.target_seat-told.result (c.target_seat-told.ensures comes.set comes.names)
    c.in-Some-feeders_from.feeders (c.in-Some-feeders_from.ensures.found c.in-Some-feeders_from.feeders refl).1 in
    (c.in-Some-feeders_from.feeders, (refl, one))

pub returns-clause-found : goal.returns-clause-found
returns-clause-found c its is =
    let zones = c.args.zones.now.zones in
    let t = c.in-Some.ensures.found c.in-Some.watch refl in
    let check : c.in-Some.watch.check ≡ t.0.set.check = ap (λ w. w.check) t.1 in
    let some = c.if-told-eq0.false in
    let told = c.target_seat-told.ensures t.0.set t.0.names in
    let up : c.target_seat-told.result ≡ suc (c.target_seat-told.result - 1) = omega (arith, some) in
    let from = c.in-Some-feeders_from.ensures.found c.in-Some-feeders_from.feeders refl in
    subst (λ (f : AliasFeeders). ComesToLead zones c.args.ids.now c.args.numbers.now c.args.seats.now c.args.valves.now c.args.set (listed_in f)) (some_same is) (record {
      set = t.0.set;
      names = t.0.names;
      on = t.0.on;
      bare = t.0.bare;
      none = t.0.none;
      alone = t.0.alone;
      its_check = subst (HasItsCheck c.args.ids.now) check from.0;
      group = c.target_seat-told.result - 1;
      its_target = subst (IsTargetSeat zones c.args.seats.now c.args.set.zone t.0.set) up told;
      are = from.1 ∙ ap (λ (o : Option ℕ). feeders_with c.args.ids.now c.args.numbers.now o (c.target_seat-told.result - 1)) check;
      within = c.are_within.ensures.0 c.if-not-are_within.false;
      many = t.0.many;
    })
