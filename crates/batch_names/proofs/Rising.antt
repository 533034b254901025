-- Numbers in rising order.
use Rattle.std.proofs.Common.{◌≡◌, ℕ, List, sym, subst, eqb}
use Rattle.std.specs.Prelude.{◌↔◌, slice_get, Some}
use Rattle.std.specs.List.{Contains, dedup}
use Rattle.std.specs.List.Sorted.{IsPermutation}
use Rattle.std.proofs.lemmas.List.Kept.{Contains-dedup_nat, Contains-from_dedup}
use Rattle.std.proofs.lemmas.List.Sorted.{Contains-permutation, IsPermutation-sym}
use Rattle.std.proofs.lemmas.Option.{get_or_from_slice_get, slice_get-get_or, slice_get_within}
use Rattle.zone_table.specs.Sets.{IsAmong}
use Rattle.zone_table.proofs.Among.{among_at, place_of}

among_of : (xs : List ℕ) (x : ℕ) → Contains xs x → IsAmong xs x
among_of xs x (k, lt, e) =
    among_at xs k x
    (subst (λ y. slice_get xs k ≡ Some y) e (slice_get-get_or xs k x lt))

contains_of : (xs : List ℕ) (x : ℕ) → IsAmong xs x → Contains xs x
contains_of xs x there =
    let at = place_of xs x there in
    (at.0, slice_get_within xs at.0 x at.1, get_or_from_slice_get xs at.0 x x at.1)

-- numbers that are sorted, and then kept once each
pub kept_by_dedup : (xs ys zs : List ℕ) → IsPermutation xs ys → zs ≡ dedup eqb ys → (n : ℕ)
    → IsAmong zs n ↔ IsAmong xs n
kept_by_dedup xs ys zs same kept n = (
  (λ there. among_of xs n
      (Contains-permutation ys xs n (IsPermutation-sym xs ys same)
      (Contains-from_dedup eqb ys n (subst (λ l. Contains l n) kept (contains_of zs n there))))),
  λ there. among_of zs n
      (subst (λ l. Contains l n) (sym kept)
      (Contains-dedup_nat ys n (Contains-permutation xs ys n same (contains_of xs n there)))),
)
