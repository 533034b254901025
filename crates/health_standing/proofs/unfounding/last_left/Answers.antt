use Rattle.std.proofs.Common.{◌≡◌, ◌-◌, ℕ, false, Option, None, Some, arith, refl, ap, sym, ◌∙◌}
use Rattle.std.specs.Prelude.{is_some}
use Rattle.std.proofs.lemmas.Bool.{false≢true}
use mathlib.Core.Path.{subst}
use Rattle.health_planning.specs.Looking.{Watches}
use Rattle.health_planning.specs.Wired.{own_part}
use Rattle.health_standing.specs.Unfounding.{LeavesLast}
use Rattle.health_standing.specs.declared.unfounding.LastAlias.{LastAlias}
use Rattle.health_valves.specs.Valves.{IsSoleFeeder}
use Rattle.health_standing.proofs.unfounding.last_left.Goals as goal

some_same : {X : Type 0} {x y : X} → Some x ≡ Some y → x ≡ y
some_same e = cc

none_is : {X : Type 0} (o : Option X) → is_some o ≡ false → o ≡ None
none_is None e = refl
none_is (Some x) e = absurd (false≢true (sym e))

last_same : {a b n m : ℕ} → a ≡ n → b ≡ m
    → ◌≡◌ {A = LastAlias} (record { valve = a; group = b }) (record { valve = n; group = m })
last_same e f = ap (λ (p : ℕ × ℕ). record { valve = p.0; group = p.1 }) (pair e f)
  where
    pair : {i j k l : ℕ} → i ≡ k → j ≡ l → ◌≡◌ {A = ℕ × ℕ} (i, j) (k, l)
    pair e f = cc

pub returns-in_default-clause-all : goal.returns-in_default-clause-all
returns-in_default-clause-all c valve group leaves =
    let r = c.requires.ready in
    let told = c.own_valve-told.ensures ∙ ap own_part c.find_seat-seat.ensures.set ∙ leaves.seat in
    let one : c.own_valve-told.result - 1 ≡ valve = omega (arith, told) in
    let sole = subst (λ (n : ℕ). IsSoleFeeder r.0 n 200 group) (sym one) (leaves.sole r.0 r.1 r.2) in
    let is = c.in_default.ensures.all r.0 r.1 r.2 group sole in
    let no : ⊥ = cc in absurd no

pub returns-clause-found : goal.returns-clause-found
returns-clause-found c its is =
    let told = c.own_valve-told.ensures ∙ ap own_part c.find_seat-seat.ensures.set in
    let some = c.if-told-eq0.false in
    let many = c.len.ensures in
    let within = c.if-valve-len.false in
    subst (λ (a : LastAlias). LeavesLast c.args.zones.now.zones c.args.seats.now c.args.valves.now c.args.set a.valve a.group) (some_same is) (record {
      gone = subst (Watches c.args.zones.now.zones c.args.set)
          (none_is c.watch.result (sym c.is_some.ensures ∙ c.if-is_some.false)) c.watch.ensures;
      seat = sym told ∙ omega (arith, some);
      none = sym c.find_seat-seat.ensures.group ∙ c.if-seat-ne0.false;
      within = omega (arith, many, within);
      sole = λ net own fits. c.in-Some.ensures.found net own fits c.in-Some.group refl;
    })

pub returns-clause-all : goal.returns-clause-all
returns-clause-all c valve group leaves =
    let r = c.requires.ready in
    let told = c.own_valve-told.ensures ∙ ap own_part c.find_seat-seat.ensures.set ∙ leaves.seat in
    let one : c.own_valve-told.result - 1 ≡ valve = omega (arith, told) in
    let sole = subst (λ (n : ℕ). IsSoleFeeder r.0 n 200 group) (sym one) (leaves.sole r.0 r.1 r.2) in
    ap Some (last_same one (some_same (c.in-Some.ensures.all r.0 r.1 r.2 group sole)))
