use Rattle.std.proofs.Common.{◌≡◌, ℕ, refl, ap, sym, ◌∙◌, inl, inr}
use Rattle.std.specs.Prelude.{nat_eq, not}
use Rattle.std.proofs.lemmas.Bool.{cases_eq, false≢true, ne_eqb}
use Rattle.health_index.proofs.index.is_taken.Goals as goal

pub returns : goal.returns
returns c =
    let r = c.requires.ready in
    let many = c.need.result in (
      λ so needs.
          let zero : many ≡ 0 = c.need.ensures r.0 r.1 r.2 ∙ needs r.0 r.1 r.2 in
          false≢true (sym (ap (λ (n : ℕ). not (nat_eq n 0)) zero) ∙ so),
      λ none. elim (cases_eq many 0) [
        | inl zero ↦ absurd (none (λ net own fits. sym (c.need.ensures net own fits) ∙ zero))
        | inr some ↦ rw (ne_eqb many 0 some) refl
      ],
    )
