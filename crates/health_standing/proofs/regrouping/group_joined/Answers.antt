use Rattle.std.proofs.Common.{◌≡◌, ◌≢◌, ◌-◌, ℕ, zero, suc, List, Some, arith, refl, ap, sym, ◌∙◌}
use Rattle.std.proofs.lemmas.Bool.{false≢true}
use mathlib.Core.Path.{subst}
use Rattle.health_standing.specs.Regrouping.{IsToldFor, JoinsGroup, TellsValve}
use Rattle.health_planning.proofs.Members.{one_named}
use Rattle.health_planning.specs.Looking.{Watches}
use Rattle.health_planning.specs.Wired.{is_watched}
use Rattle.health_planning.specs.Zones.{Zone}
use Rattle.health_planning.specs.declared.seats.Seat.{Seat}
use Rattle.rdata_layout.specs.declared.types.RType.{RType}
use Rattle.health_standing.proofs.regrouping.group_joined.Goals as goal

some_same : {X : Type 0} {x y : X} → Some x ≡ Some y → x ≡ y
some_same e = cc

told_valve : (zones : List Zone) (seats : List Seat) (zone : ℕ) (name : List (List ℕ)) (rtype : RType)
    (told : ℕ) → told ≢ 0 → IsToldFor zones seats zone name rtype told
    → TellsValve zones seats zone name rtype (told - 1)
told_valve zones seats zone name rtype zero some is = absurd (some refl)
told_valve zones seats zone name rtype (suc other) some is =
    let one : other ≡ suc other - 1 = omega arith in
    subst (TellsValve zones seats zone name rtype) one is

pub returns-then-is_watched-clause-all : goal.returns-then-is_watched-clause-all
returns-then-is_watched-clause-all c valve named joins names alike =
    let zones = c.args.zones.now.zones in
    let w = subst (Watches zones c.args.set) c.in-Some.is c.watch.ensures in
    let on = c.if-is_watched.ensures w.0 w.2 in
    let same = one_named zones c.args.set w.0 joins.set c.well_formed-2.ensures w.1 joins.names in
    absurd (false≢true (sym joins.off ∙ ap is_watched (sym same) ∙ sym on))

pub returns-clause-found : goal.returns-clause-found
returns-clause-found c told is =
    let zones = c.args.zones.now.zones in
    let seats = c.args.seats.now in
    let w = subst (Watches zones c.args.set) c.in-Some.is c.watch.ensures in
    let same = some_same is in
    let many = c.len.ensures in
    let within = c.if-valve-len.false in
    let below = c.if-own-ge-MOST_COUNTED.false in
    let some = c.if-told-eq0.false in
    let its_seat = c.find_seat-seat.ensures in
    let valve_is : c.told_for-told.result - 1 ≡ told - 1 = ap (λ (n : ℕ). n - 1) same in (
      omega (arith, same, some),
      subst (JoinsGroup zones seats c.args.valves.now c.args.set) valve_is (record {
        set = w.0;
        names = w.1;
        off = sym (c.if-is_watched.ensures w.0 w.2);
        bare = sym its_seat.set ∙ c.if-seat-ne0.false;
        none = sym its_seat.group ∙ c.if-seat-ne0-2.false;
        group = told_valve zones seats c.args.set.zone w.0.name w.0.rtype c.told_for-told.result some (c.told_for-told.ensures w.0 w.1);
        within = omega (arith, many, within);
        few = λ net own fits.
            let o = c.own.ensures net own fits in
            omega (arith, o, below);
      }),
    )
