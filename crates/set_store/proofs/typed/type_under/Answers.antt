use Rattle.std.proofs.Common.{◌≡◌, ℕ, List, ap, ◌∙◌, sym, arith}
use Rattle.set_search.specs.Labels.{wire}
use Rattle.set_store.specs.Tags.{tag_of}
use Rattle.set_store.proofs.typed.type_under.Goals as goal

pub returns-then-tag_at-name_tag : goal.returns-then-tag_at-name_tag
returns-then-tag_at-name_tag c octets set holds spells = λ same.
    (let apart = c.if-tag_at-name_tag.true in
    let own = c.tag_at.ensures holds.0 holds.1 in
    let told : holds.0.tag ≡ c.name_tag.result =
    holds.4 set spells
    ∙ (ap (λ (n : List (List ℕ)). tag_of (wire n)) same
    ∙ (ap tag_of (sym c.octets.ensures.spelled) ∙ sym c.name_tag.ensures.tag)) in
    absurd (omega (arith, apart, own, told)))
