use Rattle.std.proofs.Common.{◌≡◌, ◌<◌, ℕ, List, Option, None, Some, map, refl, ap, sym, ◌∙◌}
use Rattle.std.specs.Prelude.{All, length}
use Rattle.std.specs.Option.{option_to_list}
use Rattle.std.proofs.lemmas.Bool.{false≢true}
use mathlib.Core.Path.{subst}
use Rattle.health_planning.proofs.Members.{one_named}
use Rattle.health_planning.specs.Groups.{members_of}
use Rattle.health_planning.specs.Looking.{IsGroupNow}
use Rattle.health_planning.specs.Telling.{watch_of}
use Rattle.health_planning.specs.Wired.{valve_with}
use Rattle.health_planning.specs.GroupRecord.{Group}
use Rattle.health_standing.specs.Founding.{ComesFirstOwned, HasOwnTarget}
use Rattle.health_standing.specs.Leading.{HasItsCheck}
use Rattle.health_standing.specs.declared.founding.FirstAlias.{FirstAlias}
use Rattle.health_valves.specs.Valves.{size_of}
use Rattle.health_standing.proofs.founding.first_come.Goals as goal

some_same : {X : Type 0} {x y : X} → Some x ≡ Some y → x ≡ y
some_same e = cc

none_some : {X : Type 0} {x : X} → None ≡ Some x → ⊥
none_some e = cc

pub returns-in_default-clause-all : goal.returns-in_default-clause-all
returns-in_default-clause-all c members feeders comes = absurd (c.in_default.ensures.none refl (record {
  set = comes.set;
  names = comes.names;
  on = comes.on;
  bare = comes.bare;
  none = comes.none;
  alone = comes.alone;
  many = comes.many;
}))

pub returns-in_default-own_target-clause-all : goal.returns-in_default-own_target-clause-all
returns-in_default-own_target-clause-all c members feeders comes =
    let e = c.in_default-own_target.ensures.all comes.set members comes.names comes.its_target in
    absurd (none_some e.1.0)

pub returns-in_default-first_from-clause-all : goal.returns-in_default-first_from-clause-all
returns-in_default-first_from-clause-all c members feeders comes =
    let zones = c.args.zones.now.zones in
    let t = c.in-Some.ensures.found c.in-Some.watch refl in
    let same = one_named zones c.args.set t.0.set comes.set c.well_formed-2.ensures t.0.names comes.names in
    let check : c.in-Some.watch.check ≡ comes.set.check = ap (λ w. w.check) (t.1 ∙ ap watch_of same) in
    absurd (c.in_default-first_from.ensures.none refl (subst (HasItsCheck c.args.ids.now) (sym check) comes.its_check))

pub returns-then-not-is_there-clause-all : goal.returns-then-not-is_there-clause-all
returns-then-not-is_there-clause-all c members feeders comes =
    let zones = c.args.zones.now.zones in
    let t = c.in-Some.ensures.found c.in-Some.watch refl in
    let same = one_named zones c.args.set t.0.set comes.set c.well_formed-2.ensures t.0.names comes.names in
    let check : c.in-Some.watch.check ≡ comes.set.check = ap (λ w. w.check) (t.1 ∙ ap watch_of same) in
    let its = (c.in-Some-first_from.ensures.found c.in-Some-first_from.first refl).1
    ∙ ap (λ (o : Option ℕ). map (valve_with c.args.ids.now c.args.numbers.now) (option_to_list o)) check ∙ sym comes.are in
    absurd (false≢true (sym c.if-not-is_there.true
    ∙ c.is_there.ensures.1 (subst (λ (l : List ℕ). All (λ x. x < size_of c.args.valves.now) l) (sym its) comes.within)))

pub returns-clause-found : goal.returns-clause-found
returns-clause-found c its is =
    let zones = c.args.zones.now.zones in
    let t = c.in-Some.ensures.found c.in-Some.watch refl in
    let check : c.in-Some.watch.check ≡ t.0.set.check = ap (λ w. w.check) t.1 in
    let target = c.in-Some-own_target.ensures.found c.in-Some-own_target.group t.0.set refl t.0.names in
    let first = c.in-Some-first_from.first in
    let from = c.in-Some-first_from.ensures.found first refl in
    let group = c.in-Some-first_from.ensures.group first refl in
    subst (λ (f : FirstAlias). ComesFirstOwned zones c.args.ids.now c.args.numbers.now c.args.seats.now c.args.valves.now c.args.set
    (members_of zones f.group) (option_to_list f.check)) (some_same is) (record {
      set = t.0.set;
      names = t.0.names;
      on = t.0.on;
      bare = t.0.bare;
      none = t.0.none;
      alone = t.0.alone;
      its_check = subst (HasItsCheck c.args.ids.now) check from.0;
      its_target = subst (λ (g : Group). HasOwnTarget zones c.args.seats.now c.args.set t.0.set (members_of zones g)) (sym group) target.1.1.1;
      are = from.1 ∙ ap (λ (o : Option ℕ). map (valve_with c.args.ids.now c.args.numbers.now) (option_to_list o)) check;
      within = c.is_there.ensures.0 c.if-not-is_there.false;
      many = t.0.many;
    })

pub returns-clause-group : goal.returns-clause-group
returns-clause-group c its is =
    let zones = c.args.zones.now.zones in
    let t = c.in-Some.ensures.found c.in-Some.watch refl in
    let target = c.in-Some-own_target.ensures.found c.in-Some-own_target.group t.0.set refl t.0.names in
    let group = c.in-Some-first_from.ensures.group c.in-Some-first_from.first refl in
    subst (λ (g : Group). IsGroupNow zones g × ((g.zone ≡ c.args.set.zone) × (g.length ≡ length (members_of zones g))))
    (sym group ∙ ap (λ (f : FirstAlias). f.group) (some_same is)) (target.0, (target.1.0, target.1.1.0))

pub returns-clause-all : goal.returns-clause-all
returns-clause-all c members feeders comes =
    let zones = c.args.zones.now.zones in
    let t = c.in-Some.ensures.found c.in-Some.watch refl in
    let same = one_named zones c.args.set t.0.set comes.set c.well_formed-2.ensures t.0.names comes.names in
    let check : c.in-Some.watch.check ≡ comes.set.check = ap (λ w. w.check) (t.1 ∙ ap watch_of same) in
    let first = c.in-Some-first_from.first in
    let its = (c.in-Some-first_from.ensures.found first refl).1
    ∙ ap (λ (o : Option ℕ). map (valve_with c.args.ids.now c.args.numbers.now) (option_to_list o)) check ∙ sym comes.are in
    let e = c.in-Some-own_target.ensures.all comes.set members comes.names comes.its_target in
    let one = ap (members_of zones) (c.in-Some-first_from.ensures.group first refl ∙ some_same e.1.0) ∙ e.1.1 in
    (first, (refl, (one, its)))
