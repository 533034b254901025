-- Links in another order.
use Rattle.std.proofs.Common.{◌≡◌, ◌+◌, ℕ, Bool, true, false, List, [], ◌∷◌, arith, refl, ap, sym, ◌∙◌}
use Rattle.std.specs.Prelude.{if◌then◌else◌, ◌==◌}
use Rattle.std.specs.List.{sum_by}
use Rattle.std.specs.List.Sorted.{IsPermutation}
use Rattle.std.proofs.lemmas.List.Sorted.{sum_by-IsPermutation}
use Rattle.std.proofs.lemmas.List.Sums.{sum_by-cons}
use Rattle.health_valves.specs.Valves.{times}
use Rattle.health_valves.specs.Blueprint.{feeders_in}
use Rattle.health_valves.specs.declared.blueprint.Feeding.{Feeding}

-- ---- how often one valve feeds another

abbrev pub is_pair : (x y : ℕ) → Feeding → ℕ
is_pair x y link = if link.feeder == x then (if link.fed == y then 1 else 0) else 0

abbrev pub pairs : (x y : ℕ) → List Feeding → ℕ
pairs x y [] = 0
pairs x y (link ∷ links) = is_pair x y link + pairs x y links

pairs_sum : (x y : ℕ) (links : List Feeding) → sum_by (is_pair x y) links ≡ pairs x y links
pairs_sum x y [] = refl
pairs_sum x y (link ∷ links) =
    sum_by-cons (is_pair x y) link links
    ∙ ap (λ (n : ℕ). is_pair x y link + n) (pairs_sum x y links)

pub pairs_moved : (x y : ℕ) (before after : List Feeding) → IsPermutation before after
    → pairs x y after ≡ pairs x y before
pairs_moved x y before after moved =
    sym (pairs_sum x y after) ∙ sum_by-IsPermutation (is_pair x y) before after moved
    ∙ pairs_sum x y before

-- among what feeds a valve
pub pairs_feeding : (x y : ℕ) (links : List Feeding) → times x (feeders_in links y) ≡ pairs x y links
pairs_feeding x y [] = refl
pairs_feeding x y (link ∷ links) =
    step (link.feeder == x) (link.fed == y) refl refl (pairs_feeding x y links)
  where
    step : (a b : Bool) → (link.feeder == x) ≡ a → (link.fed == y) ≡ b
        → times x (feeders_in links y) ≡ pairs x y links
        → times x (feeders_in (link ∷ links) y) ≡ is_pair x y link + pairs x y links
    step true true ea eb r = rw (eb, ea, r) (omega arith)
    step true false ea eb r = rw (eb, ea, r) (omega arith)
    step false true ea eb r = rw (eb, ea, r) (omega arith)
    step false false ea eb r = rw (eb, ea, r) (omega arith)

-- ---- a run of links

-- each valve is fed by another as often
pub feeders_moved : (x y : ℕ) (before after : List Feeding) → IsPermutation before after
    → times x (feeders_in after y) ≡ times x (feeders_in before y)
feeders_moved x y before after moved =
    pairs_feeding x y after ∙ pairs_moved x y before after moved ∙ sym (pairs_feeding x y before)
