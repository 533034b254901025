use Rattle.std.proofs.Common.{◌≡◌, ℕ, List, length, length-set, arith, ap, refl, sym, ◌∙◌, inl, inr, Some}
use Rattle.std.specs.Prelude.{slice_get}
use Rattle.std.proofs.lemmas.Bool.{cases_eq, cases_lt}
use Rattle.std.proofs.lemmas.Option.{slice_get_read, slice_get_within}
use Rattle.check_model.specs.declared.checks.Check.{Check}
use Rattle.health_valves.proofs.Needs.{set_beside, set_here}
use Rattle.health_valves.specs.declared.blueprint.Trigger.{Trigger}
use Rattle.health_planning.proofs.Numbers.{number_there}
use Rattle.health_planning.proofs.building.put_checks.Goals as goal

some_same : {X : Type 0} {x y : X} → Some x ≡ Some y → x ≡ y
some_same e = cc

pub number_at-requires : goal.number_at-requires
number_at-requires c =
    let many = c.requires.valves.as_many in
    let early = c.loop-place-test.true in
    omega arith

pub put-requires : goal.put-requires
put-requires c =
    let many = c.requires.valves.as_many in
    let early = c.loop-place-test.true in
    let size = c.loop-place.invariant.size in
    let at = number_there c.args.numbers.now c.loop-place.place c.number_at.result (omega arith) c.number_at.ensures in
    let front = c.requires.valves.early c.loop-place.place c.number_at.result at in
    omega arith

pub loop-place-preserved : goal.loop-place-preserved
loop-place-preserved c =
    let i = c.loop-place.invariant in
    let here = c.loop-place.place in
    let held = c.index-list-place.result in
    let held_at = slice_get_read c.args.list.now _ here held refl c.loop-place-test.true c.index-list-place.is in
    let trigger = c.trigger_of-trigger.result in
    let before = c.loop-place.blueprint.triggers in
    let valve = c.number_at.result in
    let many = c.requires.valves.as_many in
    let early = c.loop-place-test.true in
    let at = number_there c.args.numbers.now here valve (omega arith) c.number_at.ensures in
    let front = c.requires.valves.early here valve at in
    let put = c.put.ensures.triggers in
    let same_long = ap length put ∙ length-set before valve trigger in
    let size = i.size in
    record {
      within = omega arith;
      size = omega arith;
      checks = λ reports are place other id check soon listed numbered. elim (cases_lt place here) [
        | inl past ↦
            ap (λ (l : List Trigger). slice_get l other) put
            ∙ set_beside before valve other trigger (λ e.
            let same = c.requires.valves.apart place here valve (numbered ∙ ap Some e) at in
            omega arith)
            ∙ i.checks reports are place other id check past listed numbered
        | inr now ↦
            let place_is : place ≡ here = omega arith in
            let same : ◌≡◌ {A = ℕ × Check} (id, check) held = some_same (sym listed ∙ ap (slice_get c.args.list.now) place_is ∙ held_at) in
            let ids = ap (λ (h : ℕ × Check). h.0) same in
            let checks = ap (λ (h : ℕ × Check). h.1) same in
            let other_is : other ≡ valve = some_same (sym numbered ∙ ap (slice_get c.args.numbers.now) place_is ∙ at) in
            ap (slice_get c.put.new.self.triggers) other_is
            ∙ ap (λ (l : List Trigger). slice_get l valve) put
            ∙ set_here before valve trigger (omega arith)
            ∙ ap Some (c.trigger_of-trigger.ensures.exact reports held.0 (are here held.0 held.1 c.seen_at.result held_at c.seen_at.ensures))
            ∙ rw (ids, checks) refl
      ];
      spares = λ other is.
          ap (λ (l : List Trigger). slice_get l other) put
          ∙ set_beside before valve other trigger (λ e. is.1 here (at ∙ ap Some (sym e)))
          ∙ i.spares other is;
      small = λ all n s is. elim (cases_eq n valve) [
        | inl same ↦
            let e : s ≡ trigger = some_same (sym is ∙ ap (slice_get c.put.new.self.triggers) same
            ∙ ap (λ (l : List Trigger). slice_get l valve) put ∙ set_here before valve trigger (omega arith)) in
            let its = ap (λ (x : Trigger). x.own) e in
            let b = c.trigger_of-trigger.ensures.small in
            omega arith
        | inr apart ↦
            i.small all n s (sym (ap (λ (l : List Trigger). slice_get l n) put ∙ set_beside before valve n trigger apart) ∙ is)
      ];
      links = c.put.ensures.links ∙ i.links;
      kept =
          let room = c.put.ensures.room in
          let links_room = c.put.ensures.links_room in
          let valves = i.kept.valves in
          let links = i.kept.links in
          let same = ap length c.put.ensures.links in
          record { valves = omega arith; links = omega arith };
    }

pub returns-clause-checks : goal.returns-clause-checks
returns-clause-checks c reports are place valve id check listed numbered =
    let within = slice_get_within c.args.list.now place (id, check) listed in
    let end = c.loop-place-test.false in
    c.loop-place.invariant.checks reports are place valve id check (omega arith) listed numbered
