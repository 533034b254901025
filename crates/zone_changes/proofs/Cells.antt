-- The cells of a zone's sets, where one comes or goes.
use Rattle.std.proofs.Common.{◌≡◌, ◌≤◌, ℕ, zero, suc, ◌+◌, ◌-◌, List, [], ◌∷◌, Some, set, take, drop}
use Rattle.std.proofs.Common.{ap, ◌∙◌, arith, inl, inr}
use Rattle.std.specs.Prelude.{slice_get}
use Rattle.std.specs.List.{insert, remove, sum_by}
use Rattle.std.proofs.lemmas.List.Sums.{sum_by-append, sum_by-cons}
use Rattle.zone_order.specs.Slotted.{Slotted, IsPut, IsTakenAt}
use Rattle.zone_order.proofs.ListsOfZoneModel.{split, split_at}
use Rattle.zone_changes.specs.Coming.{cells_in, cells_of, Comes}

-- ---- sums over lists, where one element comes or goes

module _ {X : Type 0} (f : X → ℕ) where
  first : (x : X) (xs : List X) → sum_by f (x ∷ xs) ≡ f x + sum_by f xs
  first x xs = sum_by-cons f x xs

  pub sum_set : (xs : List X) (n : ℕ) (was x : X) → slice_get xs n ≡ Some was
      → sum_by f (set xs n x) + f was ≡ sum_by f xs + f x
  sum_set [] n was x e = absurd (grind (arith, e))
  sum_set (y ∷ xs) zero was x e =
      let same : y ≡ was = grind (arith, e) in
      let c : f y ≡ f was = ap f same in
      let a = first x xs in
      let b = first y xs in
      omega (arith, c, a, b)
  sum_set (y ∷ xs) (suc n) was x e = let rest = sum_set xs n was x e in
      let a = first y (set xs n x) in
      let b = first y xs in
      omega (arith, rest, a, b)

  pub sum_insert : (xs : List X) (n : ℕ) (x : X) → sum_by f (insert xs n x) ≡ sum_by f xs + f x
  sum_insert xs n x =
      let with_it = sum_by-append f (take n xs) (x ∷ drop n xs) in
      let without = ap (sum_by f) (split n xs) ∙ sum_by-append f (take n xs) (drop n xs) in
      let a = first x (drop n xs) in
      omega (arith, with_it, without, a)

  pub sum_remove : (xs : List X) (n : ℕ) (was : X) → slice_get xs n ≡ Some was
      → sum_by f (remove xs n) + f was ≡ sum_by f xs
  sum_remove xs n was there =
      let without = sum_by-append f (take n xs) (drop (suc n) xs) in
      let with_it = ap (sum_by f) (split_at xs n was there)
      ∙ sum_by-append f (take n xs) (was ∷ drop (suc n) xs) in
      let a = first was (drop (suc n) xs) in
      omega (arith, with_it, without, a)

-- one comes in place of another
pub replaced_cells : (before : List Slotted) (given was : Slotted) (after : List Slotted) (at : ℕ)
    → slice_get before at ≡ Some was → after ≡ set before at given → (old new many : ℕ)
    → many ≡ cells_in given → new + many ≡ old + cells_in was
    → new + sum_by cells_in after ≡ old + sum_by cells_in before
replaced_cells before given was after at there replaced old new many is gave =
    let sums = sum_set cells_in before at was given there in
    let here : sum_by cells_in after ≡ sum_by cells_in (set before at given) =
    ap (sum_by cells_in) replaced in
    omega (arith, sums, here, is, gave)

-- one more comes
pub put_cells : (before : List Slotted) (given : Slotted) (after : List Slotted)
    → (r : IsPut before given after) → (old new many : ℕ) → many ≡ cells_in given → many ≤ old
    → new ≡ old - many
    → new + sum_by cells_in after ≡ old + sum_by cells_in before
put_cells before given after r old new many is enough took =
    let sums = sum_insert cells_in before r.at given in
    let here : sum_by cells_in after ≡ sum_by cells_in (insert before r.at given) = ap (sum_by cells_in) r.inserted in
    omega (arith, sums, here, is, enough, took)

-- one goes
pub taken_cells : (before : List Slotted) (at slot : ℕ) (after : List Slotted)
    → (t : IsTakenAt before at slot after) → (old new : ℕ)
    → new ≡ old + cells_in (record { slot = slot; set = t.set })
    → new + sum_by cells_in after ≡ old + sum_by cells_in before
taken_cells before at slot after t old new gave =
    let sums = sum_remove cells_in before at (record { slot = slot; set = t.set }) t.there in
    let here : sum_by cells_in after ≡ sum_by cells_in (remove before at) = ap (sum_by cells_in) t.removed in
    omega (arith, sums, here, gave)

-- what comes takes no more cells than its own
pub few_more : (before : List Slotted) (given : Slotted) (after : List Slotted) → Comes before given after
    → (old new : ℕ) → new + cells_of after ≡ old + cells_of before → old ≤ new + cells_in given
few_more before given after (inl r) old new same =
    let sums = sum_set cells_in before r.at (record { slot = given.slot; set = r.was }) given r.there in
    let here : sum_by cells_in after ≡ sum_by cells_in (set before r.at given) = ap (sum_by cells_in) r.replaced in
    omega (arith, sums, here, same)
few_more before given after (inr r) old new same =
    let sums = sum_insert cells_in before r.at given in
    let here : sum_by cells_in after ≡ sum_by cells_in (insert before r.at given) = ap (sum_by cells_in) r.inserted in
    omega (arith, sums, here, same)
