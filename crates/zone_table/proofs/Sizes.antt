-- The cells and the octets of sets that are put.
use Rattle.std.proofs.Common.{◌≡◌, ◌∙◌, ◌≤◌, ℕ, ◌+◌, List, [], ◌∷◌, ◌++◌, length, take, Some, ap}
use Rattle.std.proofs.Common.{sym, subst, arith}
use Rattle.std.specs.Prelude.{slice_get}
use Rattle.std.specs.List.{AllByRecursion}
use Rattle.std.proofs.lemmas.List.Sums.{sum_by-append}
use Rattle.zone_list.specs.RecordSetRecord.{RecordSet}
use Rattle.zone_list.specs.Octets.{set_octets}
use Rattle.zone_list.specs.Steps.{cells_in_all}
use Rattle.zone_list.proofs.ListsOfZoneModel.{take_more}

-- what was bounded so far is by the larger bound, and so is one more
pub longest_more : (add : List RecordSet) (i most now : ℕ) (set : RecordSet)
    → AllByRecursion (λ s. length (set_octets s) ≤ most) (take i add) → most ≤ now
    → length (set_octets set) ≤ now → slice_get add i ≡ Some set
    → AllByRecursion (λ s. length (set_octets s) ≤ now) (take (i + 1) add)
longest_more add i most now set all more one at =
    subst (AllByRecursion (λ s. length (set_octets s) ≤ now)) (sym (take_more add i set at))
    (by (take i add) all)
  where
    by : (xs : List RecordSet) → AllByRecursion (λ s. length (set_octets s) ≤ most) xs
        → AllByRecursion (λ s. length (set_octets s) ≤ now) (xs ++ set ∷ [])
    by [] each = (one, tt)
    by (x ∷ xs) each = ((let h = each.0 in omega (arith, h, more)), by xs each.1)

-- one more set takes its cells
pub cells_more : (add : List RecordSet) (i : ℕ) (set : RecordSet) → slice_get add i ≡ Some set
    → cells_in_all (take (i + 1) add) ≡ cells_in_all (take i add) + cells_in_all (set ∷ [])
cells_more add i set at =
    ap cells_in_all (take_more add i set at) ∙ sum_by-append _ (take i add) (set ∷ [])
