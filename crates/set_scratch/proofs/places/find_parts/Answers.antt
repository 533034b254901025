use Rattle.std.proofs.Common.{ap, length, ◌∙◌}
use Rattle.set_scratch.proofs.Found.{within, begins, stands, name_ends}
use Rattle.set_scratch.proofs.places.find_parts.Goals as goal

pub overflow_sub-body : goal.overflow_sub-body
overflow_sub-body c =
    let set = c.requires.spelled in
    within c.args.octets.now c.behind_name-typed.result.now c.behind_policy-answers.result.now set.0 set.1
    c.behind_name-typed.ensures.behind
    (λ routing rest is e. c.behind_policy-answers.ensures.behind routing rest is (c.past.ensures ∙ e))

pub find_values-check-requires-clause-there : goal.find_values-check-requires-clause-there
find_values-check-requires-clause-there c =
    let set = c.requires.spelled in (
      set.0.body,
      _,
      set.1.is.body,
      stands c.args.octets.now c.behind_name-typed.result.now
          c.behind_policy-answers.result.now set.0 set.1 c.behind_name-typed.ensures.behind
          (λ routing rest is e. c.behind_policy-answers.ensures.behind routing rest is (c.past.ensures ∙ e)),
    )

pub returns-clause-places : goal.returns-clause-places
returns-clause-places c = λ set spelled.
    let octets = c.args.octets.now in
    let typed = c.behind_name-typed.result.now in
    let answers = c.behind_policy-answers.result.now in
    let behind = c.behind_name-typed.ensures.behind in
    let there = stands octets typed answers set spelled behind
    (λ routing rest is e. c.behind_policy-answers.ensures.behind routing rest is (c.past.ensures ∙ e)) in
    record {
      len = ap length spelled.same;
      name = name_ends octets typed answers set spelled behind
          (λ routing rest is e. c.behind_policy-answers.ensures.behind routing rest is (c.past.ensures ∙ e));
      body = begins octets typed answers set spelled behind
          (λ routing rest is e. c.behind_policy-answers.ensures.behind routing rest is (c.past.ensures ∙ e));
      check = c.find_values-check.ensures.end set.body _ spelled.is.body there;
      values = c.find_values-check.ensures.starts set.body _ spelled.is.body there;
    }
