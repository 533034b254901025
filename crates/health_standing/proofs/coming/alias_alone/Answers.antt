use Rattle.std.proofs.Common.{◌≡◌, Bool, true, false, Some, arith, refl, ap, sym, ◌∙◌}
use Rattle.std.specs.Prelude.{not}
use Rattle.std.proofs.lemmas.Bool.{false≢true}
use mathlib.Core.Path.{subst}
use Rattle.health_planning.proofs.Members.{one_named}
use Rattle.health_planning.specs.Looking.{Watches}
use Rattle.health_planning.specs.Telling.{evaluates, watch_of}
use Rattle.health_standing.proofs.coming.alias_alone.Goals as goal

-- what isn't not so is so
truth : (b : Bool) → not b ≡ false → b ≡ true
truth true e = refl
truth false e = absurd (false≢true (sym e))

pub returns-then-not-watch-clause-none : goal.returns-then-not-watch-clause-none
returns-then-not-watch-clause-none c is comes =
    let zones = c.args.zones.now.zones in
    let t = subst (Watches zones c.args.set) c.in-Some.is c.watch.ensures in
    let same = one_named zones c.args.set t.0 comes.set c.well_formed-2.ensures t.1 comes.names in
    absurd (false≢true (sym (ap not (ap (λ w. w.evaluates) (t.2 ∙ ap watch_of same) ∙ comes.on)) ∙ c.if-not-watch.true))

some_same : {X : Type 0} {x y : X} → Some x ≡ Some y → x ≡ y
some_same e = cc

pub returns-clause-found : goal.returns-clause-found
returns-clause-found c its is =
    let zones = c.args.zones.now.zones in
    let t = subst (Watches zones c.args.set) c.in-Some.is c.watch.ensures in
    let on : c.in-Some.watch.evaluates ≡ evaluates t.0.body = ap (λ w. w.evaluates) t.2 in
    let many = c.len.ensures in
    let enough = c.if-len-lt-MOST_CHECKS.false in
    let seat = c.find_seat-seat.ensures in (
      record {
        set = t.0;
        names = t.1;
        on = sym on ∙ truth c.in-Some.watch.evaluates c.if-not-watch.false;
        bare = sym seat.set ∙ c.if-seat-ne0.false;
        none = sym seat.group ∙ c.if-seat-ne0-2.false;
        alone = (c.has_no_valve.ensures t.0 t.1).0 c.if-not-has_no_valve.false;
        many = omega (arith, many, enough);
      },
      sym (some_same is) ∙ t.2,
    )
