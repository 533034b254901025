use Rattle.std.proofs.Common.{◌≡◌, ◌-◌, ℕ, false, Option, None, Some, arith, refl, ap, sym, ◌∙◌}
use Rattle.std.specs.Prelude.{is_some}
use Rattle.std.proofs.lemmas.Bool.{false≢true}
use mathlib.Core.Path.{subst}
use Rattle.health_planning.specs.Looking.{Watches}
use Rattle.health_planning.specs.Wired.{own_part}
use Rattle.health_standing.specs.Unleading.{LeavesValve}
use Rattle.health_valves.specs.Valves.{IsShared}
use Rattle.health_standing.proofs.unleading.valve_left.Goals as goal

some_same : {X : Type 0} {x y : X} → Some x ≡ Some y → x ≡ y
some_same e = cc

none_is : {X : Type 0} (o : Option X) → is_some o ≡ false → o ≡ None
none_is None e = refl
none_is (Some x) e = absurd (false≢true (sym e))

pub returns-then-not-is_shared-clause-all : goal.returns-then-not-is_shared-clause-all
returns-then-not-is_shared-clause-all c valve leaves =
    let r = c.requires.ready in
    let told = c.own_valve-told.ensures ∙ ap own_part c.find_seat-seat.ensures.set ∙ leaves.seat in
    let one : c.own_valve-told.result - 1 ≡ valve = omega (arith, told) in
    let shared = subst (λ (n : ℕ). IsShared r.0 n 200) (sym one) (leaves.shared r.0 r.1 r.2) in
    absurd (false≢true (sym c.if-not-is_shared.true ∙ (c.is_shared.ensures r.0 r.1 r.2).1 shared))

pub returns-clause-found : goal.returns-clause-found
returns-clause-found c valve is =
    let one = some_same is in
    let told = c.own_valve-told.ensures ∙ ap own_part c.find_seat-seat.ensures.set in
    let some = c.if-told-eq0.false in
    let many = c.len.ensures in
    let within = c.if-valve-len.false in
    subst (LeavesValve c.args.zones.now.zones c.args.seats.now c.args.valves.now c.args.set) one (record {
      gone = subst (Watches c.args.zones.now.zones c.args.set)
          (none_is c.watch.result (sym c.is_some.ensures ∙ c.if-is_some.false)) c.watch.ensures;
      seat = sym told ∙ omega (arith, some);
      none = sym c.find_seat-seat.ensures.group ∙ c.if-seat-ne0.false;
      within = omega (arith, many, within);
      shared = λ net own fits. (c.is_shared.ensures net own fits).0 c.if-not-is_shared.false;
    })
