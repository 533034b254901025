-- Lists in which none stands twice.
use Rattle.std.proofs.Common.{◌≢◌, ℕ, List, [], ◌∷◌, ◌++◌, sym}
use Rattle.std.specs.List.{AllByRecursion}
use Rattle.set_store.proofs.ListsOfZoneModel.{all_at, all_put, all_taken}
use Rattle.zone_order.specs.Orders.{AreDistinct}

pub distinct_put : (front back : List ℕ) (k : ℕ) → AreDistinct (front ++ back)
    → AllByRecursion (λ j. k ≢ j) (front ++ back) → AreDistinct (front ++ k ∷ back)
distinct_put [] back k distinct fresh = (fresh, distinct)
distinct_put (j ∷ front) back k distinct fresh = (
  all_put (λ i. j ≢ i) front back k distinct.0 (λ e. fresh.0 (sym e)),
  distinct_put front back k distinct.1 fresh.1,
)

pub distinct_taken : (front back : List ℕ) (k : ℕ) → AreDistinct (front ++ k ∷ back)
    → AreDistinct (front ++ back)
distinct_taken [] back k distinct = distinct.1
distinct_taken (j ∷ front) back k distinct =
    (all_taken (λ i. j ≢ i) front back k distinct.0, distinct_taken front back k distinct.1)

-- what is taken away stands nowhere else
pub apart : (front back : List ℕ) (k : ℕ) → AreDistinct (front ++ k ∷ back)
    → AllByRecursion (λ j. k ≢ j) (front ++ back)
apart [] back k distinct = distinct.0
apart (j ∷ front) back k distinct =
    ((λ e. all_at (λ i. j ≢ i) front back k distinct.0 (sym e)), apart front back k distinct.1)
