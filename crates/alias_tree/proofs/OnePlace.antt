-- The first place of a list at which something holds is one.
use Rattle.std.proofs.Common.{◌≡◌, ℕ, ◌<◌, ◌≤◌, List, Option, None, Some, ap, refl, inl, inr, arith}
use Rattle.std.specs.Prelude.{◌⊎◌}
use Rattle.std.proofs.lemmas.Bool.{cases_lt}
use Rattle.std.proofs.lemmas.Option.{slice_get_within}
use Rattle.set_search.specs.RecordSetRecord.{RecordSet}
use Rattle.alias_tree.specs.Firsts.{IsFirstPlace}

module _ (Has : RecordSet → Type 0) (sets : List RecordSet) where
  pub one_place : (place other : Option ℕ) → IsFirstPlace Has sets place → IsFirstPlace Has sets other
      → place ≡ other
  one_place None None f g = refl
  one_place None (Some j) f g = absurd (f j (slice_get_within sets j g.0.0 g.0.1) g.0)
  one_place (Some i) None f g = absurd (g i (slice_get_within sets i f.0.0 f.0.1) f.0)
  one_place (Some i) (Some j) f g = by (cases_lt i j) (cases_lt j i)
    where
      by : (i < j) ⊎ (j ≤ i) → (j < i) ⊎ (i ≤ j) → Some i ≡ Some j
      by (inl lt) other = absurd (g.1 i lt f.0)
      by (inr le) (inl lt) = absurd (f.1 j lt g.0)
      by (inr le) (inr ge) = ap Some (omega (arith, le, ge))
