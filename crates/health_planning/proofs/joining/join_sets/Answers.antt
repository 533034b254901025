use Rattle.std.proofs.Common.{◌≡◌, ◌+◌, ◌++◌, ℕ, List, arith, ap, sym, ◌∙◌, inl, inr, Some}
use Rattle.std.specs.Prelude.{slice_get}
use Rattle.std.proofs.lemmas.Bool.{cases_lt}
use Rattle.std.proofs.lemmas.Option.{slice_get-get_or, slice_get_within}
use mathlib.Core.Path.{subst}
use Rattle.health_valves.specs.Blueprint.{feeders_in}
use Rattle.health_valves.specs.declared.blueprint.Feeding.{Feeding}
use Rattle.policy_select.specs.SetRefRecord.{SetRef}
use Rattle.policy_select.specs.Looking.{RefersTo}
use Rattle.health_planning.specs.Building.{FeedsSet, links_to}
use Rattle.health_planning.proofs.Feeding.{fed_beside, fed_here, set_within}
use Rattle.health_planning.proofs.Grouped.{to_within, within_more}
use Rattle.health_planning.proofs.joining.join_sets.Goals as goal

some_same : {X : Type 0} {x y : X} → Some x ≡ Some y → x ≡ y
some_same e = cc

pub join_set-requires-clause-named : goal.join_set-requires-clause-named
join_set-requires-clause-named c =
    c.requires.named c.loop-k.k _ (slice_get-get_or c.args.refs.now c.loop-k.k (record { zone = 0; slot = 0 }) c.loop-k-test.true)

pub join_set-requires-clause-told : goal.join_set-requires-clause-told
join_set-requires-clause-told c named names =
    c.requires.told c.loop-k.k _ named (slice_get-get_or c.args.refs.now c.loop-k.k (record { zone = 0; slot = 0 }) c.loop-k-test.true) names

pub join_set-requires-clause-there : goal.join_set-requires-clause-there
join_set-requires-clause-there c named id names is = c.requires.there _ named id names is

pub loop-k-preserved : goal.loop-k-preserved
loop-k-preserved c =
    let zones = c.args.zones.now.zones in
    let ids = c.args.ids.now in
    let numbers = c.args.numbers.now in
    let seats = c.args.seats.now in
    let i = c.loop-k.invariant in
    let here = slice_get-get_or c.args.refs.now c.loop-k.k (record { zone = 0; slot = 0 }) c.loop-k-test.true in
    let one = c.requires.named c.loop-k.k _ here in
    let joins = c.join_set.ensures.links one.0 one.1 in
    let valve = 200 + c.loop-k.k in
    let before = c.loop-k.blueprint.links in
    record {
      within_refs = omega (arith, c.loop-k-test.true);
      triggers = c.join_set.ensures.triggers ∙ i.triggers;
      kept =
          let valves = i.kept.valves in
          let more_valves = c.join_set.ensures.kept.valves in
          let links = i.kept.links in
          let more_links = c.join_set.ensures.kept.links in
          record { valves = omega arith; links = omega arith };
      few =
          let few = i.few in
          let more = c.join_set.ensures.few in
          omega arith;
      joined = λ k set named early at names none. elim (cases_lt k c.loop-k.k) [
        | inl past ↦
            subst (FeedsSet zones ids numbers seats set.zone named)
            (sym (ap (λ (l : List Feeding). feeders_in l (200 + k)) joins.1.1 ∙ fed_beside before valve (200 + k) joins.0 (λ e. omega arith)))
            (i.joined k set named past at names none)
        | inr now ↦
            let k_is : k ≡ c.loop-k.k = omega arith in
            let set_is = some_same (sym here ∙ ap (slice_get c.args.refs.now) (sym k_is) ∙ at) in
            let names_here = subst (λ (s : SetRef). RefersTo zones s named) (sym set_is) names in
            let its = c.join_set.ensures.links named names_here in
            let none_yet = i.others valve (inr (omega arith)) ∙ ap (λ (n : ℕ). feeders_in c.args.blueprint.now.links (200 + n)) (sym k_is) ∙ none in
            subst (λ (s : SetRef). FeedsSet zones ids numbers seats s.zone named (feeders_in c.join_set.new.blueprint.links (200 + k))) set_is
            (subst (FeedsSet zones ids numbers seats _ named)
            (sym (ap (λ (l : List Feeding). feeders_in l (200 + k)) its.1.1
            ∙ ap (λ (n : ℕ). feeders_in (before ++ links_to valve its.0) (200 + n)) k_is
            ∙ fed_here before valve its.0 none_yet)) its.1.0)
      ];
      others = λ g apart.
          ap (λ (l : List Feeding). feeders_in l g) joins.1.1
          ∙ fed_beside before valve g joins.0 (λ e. elim apart [ inl low ↦ omega arith | inr high ↦ omega arith ])
          ∙ i.others g (elim apart [ inl low ↦ inl low | inr high ↦ inr (omega arith) ]);
      within = λ n fits groups start.
          let early = c.loop-k-test.true in
          rw joins.1.1 (within_more before (links_to valve joins.0) n (i.within n fits groups start)
          (to_within valve n joins.0 (omega arith)
          (set_within zones ids numbers c.requires.valves seats n (omega arith) groups _ one.0 joins.0 joins.1.0 (λ id is. c.requires.there _ one.0 id one.1 is))));
    }

pub returns-clause-joined : goal.returns-clause-joined
returns-clause-joined c k set named at names none =
    let b = slice_get_within c.args.refs.now k set at in
    let end = c.loop-k-test.false in
    c.loop-k.invariant.joined k set named (omega arith) at names none

pub join_set-requires-clause-room : goal.join_set-requires-clause-room
join_set-requires-clause-room c =
    let few = c.loop-k.invariant.few in
    let room = c.requires.room in
    let early = c.loop-k-test.true in
    omega arith
