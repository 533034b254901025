use Rattle.std.proofs.Common.{◌<◌, ◌≤◌, ℕ, zero, suc, refl, arith, inl, inr}
use Rattle.std.specs.Prelude.{◌⊎◌}
use Rattle.std.proofs.lemmas.Bool.{false≢true}
use Rattle.std.proofs.lemmas.Option.{slice_get_within}
use Rattle.zone_table.proofs.Among.{place_of}
use Rattle.alias_links.proofs.keys.adds_to.Goals as goal

below_or_not : (a b : ℕ) → (a < b) ⊎ (b ≤ a)
below_or_not a zero = inr (omega arith)
below_or_not zero (suc b) = inl (omega arith)
below_or_not (suc a) (suc b) =
    elim (below_or_not a b) [ inl lt ↦ inl (omega (arith, lt)) | inr le ↦ inr (omega (arith, le)) ]

pub returns-in-Some : goal.returns-in-Some
returns-in-Some c = (λ e. c.in-Some.ensures.some, λ has. refl)

pub returns-in-Some-first_of_group : goal.returns-in-Some-first_of_group
returns-in-Some-first_of_group c = (λ e. c.in-Some-first_of_group.ensures.some, λ has. refl)

pub returns : goal.returns
returns c =
    let sets = c.args.sets.now in (
      λ e. absurd (false≢true e),
      λ has.
          let at = place_of sets has.0 has.1 in
          let within = slice_get_within sets at.0 has.0 at.1 in
          elim (below_or_not at.0 c.min-start.result) [
            | inl lt ↦
                absurd (c.in_default-first_of_group.ensures.none at.0 has.0 (omega arith) lt at.1 has.2)
            | inr le ↦ absurd (c.in_default.ensures.none at.0 has.0 le within at.1 has.2)
          ],
    )
