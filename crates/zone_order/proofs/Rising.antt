-- Sets stay in zone order where one is put at its place, or taken away.
use Rattle.std.proofs.Common.{◌≡◌, ℕ, List, [], ◌∷◌, ◌++◌, take, ap, ◌∙◌, subst}
use Rattle.std.specs.List.{filter, insert}
use Rattle.set_store.specs.RecordSetRecord.{RecordSet}
use Rattle.set_store.specs.SetsOfRecordSet.{key_of}
use Rattle.set_store.specs.Placing.{comes_behind, placed}
use Rattle.set_store.specs.Keys.{key_cmp}
use Rattle.set_store.specs.Laws.{PlacedRise}
use Rattle.set_store.specs.Zones.{IsRising}
use Rattle.set_store.proofs.ListsOfZoneModel.{all_taken}
use Rattle.set_store.specs.Found.{FindsNone}

pub put_rises : PlacedRise → (sets : List RecordSet) (set : RecordSet) (n : ℕ) → IsRising sets
    → FindsNone sets (key_of set) n → IsRising (insert sets n set)
put_rises law sets set n rising found =
    let eq : placed set sets ≡ insert sets n set =
    ap (λ (front : List RecordSet). front ++ set ∷ filter (comes_behind (key_of set)) sets)
    found.front
    ∙ ap (λ (back : List RecordSet). take n sets ++ set ∷ back) found.back in
    subst IsRising eq (law set sets rising)

pub rising_taken : (front back : List RecordSet) (set : RecordSet) → IsRising (front ++ set ∷ back)
    → IsRising (front ++ back)
rising_taken [] back set rising = rising.1
rising_taken (x ∷ front) back set rising = (
  all_taken (λ later. key_cmp (key_of x) (key_of later) ≡ _) front back set rising.0,
  rising_taken front back set rising.1,
)
