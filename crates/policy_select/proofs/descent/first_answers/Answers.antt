use Rattle.std.proofs.Common.{◌≡◌, ◌+◌, ◌∷◌, [], ◌∙◌, Option, refl, subst, sym}
use Rattle.std.specs.Prelude.{IfSome, IsTrue}
use Rattle.answer_model.specs.Descent.{descend, word_of}
use Rattle.routing.specs.declared.policies.Routing.TheVariants as routing
use Rattle.zone_table.specs.Reasons.{IsAlias}
use Rattle.zone_table.specs.RecordSetRecord.{RecordSet}
use Rattle.policy_select.specs.Groups.{flags_in, sets_in}
use Rattle.policy_select.specs.Selecting.{selected_of}
use Rattle.policy_select.proofs.Choosing.{simple_is, simple_last, simple_uses, some_sets}
use Rattle.policy_select.proofs.Descending.{ends_here}
use Rattle.policy_select.proofs.descent.first_answers.Goals as goal

pub returns-clause-held : goal.returns-clause-held
returns-clause-held c = λ few. c.load_member.ensures.loaded

pub returns-clause-first : goal.returns-clause-first
returns-clause-first c = λ alone.
    (let loaded = c.load_member.ensures in
    (loaded.some.0, sym loaded.loaded ∙ loaded.some.1, loaded.some.1, loaded.some.2))

pub returns-clause-alone : goal.returns-clause-alone
unfolding descend
returns-clause-alone c = λ alone view client words count used healthy agrees.
    let zones = c.args.zones.now.zones in
    let g = c.args.group in
    let sets = sets_in zones g in
    let loaded = c.load_member.ensures in
    let set = loaded.some.0 in
    let first = sym loaded.loaded ∙ loaded.some.1 in
    let is = subst
    (λ (h : Option RecordSet). IfSome h (λ s. IsTrue c.answers_alone.result
    → (s.routing ≡ routing.Simple) × (IsAlias s.body → ⊥)))
    loaded.some.1 c.answers_alone.ensures.alone alone in
    let result = selected_of g (0 ∷ []) in
    ends_here zones view healthy agrees client words g 16 count used result (count + 1) used
    (some_sets sets set first)
    (simple_is g sets (flags_in zones view g) client.rows (word_of words count) set result first is.0 refl)
    (simple_last zones g result set refl first is.1) refl (simple_uses client sets set used first is.0)
