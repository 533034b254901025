use Rattle.std.proofs.Common.{◌≡◌, ℕ, ◌-◌, ◌+◌, Option, suc, refl, rules, sym, ◌∙◌, subst, arith}
use Rattle.std.specs.Prelude.{IfSome, IsTrue}
use Rattle.answer_model.specs.Clients.{client_with}
use Rattle.answer_model.specs.Descent.{descends, word_of}
use Rattle.routing.specs.declared.policies.Routing.TheVariants as routing
use Rattle.zone_table.specs.Reasons.{IsAlias}
use Rattle.zone_table.specs.RecordSetRecord.{RecordSet}
use Rattle.policy_select.specs.Groups.{sets_in, sets_in_zone}
use Rattle.policy_select.specs.Selecting.{Gives, means_of}
use Rattle.policy_select.proofs.Descending.{ends_here, goes_on}
use Rattle.policy_select.proofs.Policies.{by_held}
use Rattle.policy_select.proofs.descent.+descend_from.Goals as goal

pub descend_from-choose_simple-requires-clause-first : goal.descend_from-choose_simple-requires-clause-first
descend_from-choose_simple-requires-clause-first g t c =
    let loaded = c.load_member.ensures in
    let set = loaded.some.0 in
    let alone = subst
    (λ (h : Option RecordSet). IfSome h (λ s. IsTrue c.answers_alone.result
    → (s.routing ≡ routing.Simple) × (IsAlias s.body → ⊥)))
    loaded.some.1 c.answers_alone.ensures.alone in
    let simple = alone c.if-answers_alone.true in
    (set, sym loaded.loaded ∙ loaded.some.1, simple.0, loaded.some.1, simple.1)

pub descend_from-descend_on-requires : goal.descend_from-descend_on-requires
descend_from-descend_on-requires g t c = λ κs lives.
    let loaded = c.load_member.ensures in
    let some = c.if-most-eq0.false in
    let sets = c.if-group-eq0.false in (
      search (rules, arith),
      (
        first_of (search rules, search (rules, lives), assumption lives),
        (
          omega (arith, some),
          (
            c.requires.group,
            (
              omega (arith, sets),
              (
                c.requires.few,
                (
                  c.requires.room,
                  (
                    by_held c.args.zones.now.zones c.args.group c.requires.group
                        c.load_member.new.scratch loaded.some.0 c.policy_place-at.result
                        (sym loaded.loaded ∙ loaded.some.1) loaded.some.1 c.policy_place-at.ensures,
                    ((λ h. loaded.loaded), c.requires.seen),
                  ),
                ),
              ),
            ),
          ),
        ),
      ),
    )

pub descend_from-returns-then-answers_alone-clause-gives : goal.descend_from-returns-then-answers_alone-clause-gives
descend_from-returns-then-answers_alone-clause-gives g t c = λ healthy agrees.
    let zones = c.args.zones.now.zones in
    let test = g.V.HealthView.test c.args.view.now in
    let client = client_with c.args.tables.now c.args.zones.now.collections.list c.args.client in
    let here = c.args.group in
    let chosen = c.choose_simple in
    let some = c.if-most-eq0.false in
    let one : suc (c.args.most - 1) ≡ c.args.most = omega (arith, some) in
    let gives = ends_here zones test healthy agrees client
    c.args.words.now here (c.args.most - 1) c.args.choices.now c.args.used.now chosen.result
    (c.args.choices.now + 1) c.args.used.now chosen.ensures.some
    (chosen.ensures.selected test client (word_of c.args.words.now c.args.choices.now))
    chosen.ensures.last refl (chosen.ensures.used client c.args.used.now) in
    subst (λ (n : ℕ). Gives zones (descends n (means_of (healthy here.zone) client c.args.words.now)
    (sets_in_zone zones here.zone) (sets_in zones here)
    (record { count = c.args.choices.now; used = c.args.used.now })) chosen.result
    (c.args.choices.now + 1) c.args.used.now) one gives

pub descend_on-returns-in-None-clause-gives : goal.descend_on-returns-in-None-clause-gives
descend_on-returns-in-None-clause-gives g t c = λ healthy agrees.
    let zones = c.args.zones.now.zones in
    let client = client_with c.args.tables.now c.args.zones.now.collections.list c.args.client in
    let here = c.args.group in
    let chosen = c.choose_next-selected in
    let some = c.requires.many in
    let one : suc (c.args.most - 1) ≡ c.args.most = omega (arith, some) in
    let gives = ends_here zones (g.V.HealthView.test c.args.view.now) healthy agrees client
    c.args.words.now here (c.args.most - 1) c.args.choices.now c.args.used.now chosen.result
    chosen.new.choices chosen.new.used chosen.ensures.some chosen.ensures.selected
    c.in-None.ensures chosen.ensures.choices chosen.ensures.used in
    subst (λ (n : ℕ). Gives zones (descends n (means_of (healthy here.zone) client c.args.words.now)
    (sets_in_zone zones here.zone) (sets_in zones here)
    (record { count = c.args.choices.now; used = c.args.used.now })) chosen.result
    chosen.new.choices chosen.new.used) one gives

pub descend_on-returns-in-Some-clause-gives : goal.descend_on-returns-in-Some-clause-gives
descend_on-returns-in-Some-clause-gives g t c = λ healthy agrees.
    let zones = c.args.zones.now.zones in
    let client = client_with c.args.tables.now c.args.zones.now.collections.list c.args.client in
    let here = c.args.group in
    let chosen = c.choose_next-selected in
    let rest = c.descend_from in
    let some = c.requires.many in
    let one : suc (c.args.most - 1) ≡ c.args.most = omega (arith, some) in
    let gives = goes_on zones (g.V.HealthView.test c.args.view.now) healthy agrees client
    c.args.words.now here (c.args.most - 1) c.args.choices.now c.args.used.now chosen.result
    c.in-Some.target rest.result chosen.new.choices rest.new.choices chosen.new.used
    rest.new.used chosen.ensures.some chosen.ensures.selected c.in-Some.ensures
    chosen.ensures.choices chosen.ensures.used (rest.ensures.gives healthy agrees) in
    subst (λ (n : ℕ). Gives zones (descends n (means_of (healthy here.zone) client c.args.words.now)
    (sets_in_zone zones here.zone) (sets_in zones here)
    (record { count = c.args.choices.now; used = c.args.used.now })) rest.result
    rest.new.choices rest.new.used) one gives
