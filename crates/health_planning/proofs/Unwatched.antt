-- Zones without evaluated aliases, and those whose sets name no check, by what is counted of their sets.
use Rattle.std.proofs.Common.{◌≡◌, ◌+◌, ℕ, false, List, [], ◌∷◌, Option, None, Some, arith, refl, sym, ◌∙◌, inl, inr}
use Rattle.std.specs.Prelude.{is_some}
use mathlib.Core.Path.{subst}
use Rattle.std.proofs.lemmas.List.Sums.{sum_by-cons}
use Rattle.record_set.specs.declared.sets.Body.{Body}
use Rattle.record_set.specs.declared.sets.Body.TheVariants as body
use Rattle.policy_select.specs.Telling.{evaluates, is_alias}
use Rattle.zone_table.specs.Sums.{aliases_in, aliases_of, checked_in, checked_of, one_of}
use Rattle.zone_model.specs.Slotted.{IsHere, Slotted}

-- a set that is no alias
parts : (answer : Body) → one_of (is_alias answer) ≡ 0 → evaluates answer ≡ false
parts (body.Values ttl values) no_alias = refl
parts (body.Alias target evaluate) no_alias = absurd (omega (arith, no_alias))

-- each of the sets
pub none_evaluates : (placed : List Slotted) (p : Slotted) → aliases_of placed ≡ 0 → IsHere placed p
    → evaluates p.set.body ≡ false
none_evaluates [] p aliases here = absurd here
none_evaluates (q ∷ placed) p aliases here =
    let each : aliases_in q + aliases_of placed ≡ 0 = sym (sum_by-cons aliases_in q placed) ∙ aliases in
    elim here [
      | inl same ↦ subst (λ (x : Slotted). evaluates x.set.body ≡ false) same
          (parts q.set.body (omega (arith, each)))
      | inr later ↦ none_evaluates placed p (omega (arith, each)) later
    ]

-- a set that names no check
unnamed : (check : Option ℕ) → one_of (is_some check) ≡ 0 → check ≡ None
unnamed None none = refl
unnamed (Some id) none = absurd (omega (arith, none))

pub none_named : (placed : List Slotted) (p : Slotted) → checked_of placed ≡ 0 → IsHere placed p
    → p.set.check ≡ None
none_named [] p checks here = absurd here
none_named (q ∷ placed) p checks here =
    let each : checked_in q + checked_of placed ≡ 0 = sym (sum_by-cons checked_in q placed) ∙ checks in
    elim here [
      | inl same ↦ subst (λ (x : Slotted). x.set.check ≡ None) same
          (unnamed q.set.check (omega (arith, each)))
      | inr later ↦ none_named placed p (omega (arith, each)) later
    ]
