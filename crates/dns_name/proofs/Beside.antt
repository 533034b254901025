-- Two names right below one name are in the order of their first labels.
use Rattle.std.proofs.Common.{◌≡◌, ℕ, ◌+◌, List, [], ◌∷◌, take, drop, get_or, arith, ap, ◌∙◌, sym, refl, Equal}
use Rattle.std.specs.Cmp.Lexicographic.{slice_cmp}
use Rattle.std.specs.Ordering.{nat_cmp, ordering_then}
use Rattle.std.specs.declared.cmp.Ordering.{Ordering}
use Rattle.std.specs.declared.cmp.Ordering.TheVariants.{Less, Greater}
use Rattle.dns_name.specs.Order.{zone_cmp}
use Rattle.dns_name.specs.OrderLaws.{zone_cmp_total}
use Rattle.dns_name.specs.Stored.{labels_of}
use Rattle.dns_name.specs.Whole.{IsWire}
use Rattle.dns_name.proofs.Depth.{deeper}
use Rattle.dns_name.proofs.Steps.{step}
use Rattle.std.proofs.lemmas.Cmp.{tied_itself}

tied_last : (o : Ordering) → ordering_then o Equal ≡ o
tied_last Less = refl
tied_last Equal = refl
tied_last Greater = refl

pub beside : (label other : List ℕ) (above : List (List ℕ))
    → zone_cmp (label ∷ above) (other ∷ above) ≡ slice_cmp nat_cmp label other
beside label other above =
    deeper (label ∷ []) (other ∷ []) above above refl
    ∙ (ap (λ o. ordering_then o (zone_cmp (label ∷ []) (other ∷ []))) (tied_itself zone_cmp_total above)
    ∙ tied_last (slice_cmp nat_cmp label other))

module _ (xs ys : List ℕ) (wire : IsWire xs) (other_wire : IsWire ys) (some : get_or xs 0 0 ≡ 0 → ⊥)
    (other_some : get_or ys 0 0 ≡ 0 → ⊥) where
  labels : labels_of xs ≡ take (get_or xs 0 0) (drop 1 xs) ∷ labels_of (drop (get_or xs 0 0 + 1) xs)
  labels = (let s = (step xs 0 wire some).labels in let place : 0 + (get_or xs 0 0 + 1) ≡ get_or xs 0 0 + 1 = omega arith in
      s ∙ ap (λ k. take (get_or xs 0 0) (drop 1 xs) ∷ labels_of (drop k xs)) place)

  others : labels_of ys ≡ take (get_or ys 0 0) (drop 1 ys) ∷ labels_of (drop (get_or ys 0 0 + 1) ys)
  others = (let s = (step ys 0 other_wire other_some).labels in let place : 0 + (get_or ys 0 0 + 1) ≡ get_or ys 0 0 + 1 = omega arith in
      s ∙ ap (λ k. take (get_or ys 0 0) (drop 1 ys) ∷ labels_of (drop k ys)) place)

  pub in_order : drop (get_or xs 0 0 + 1) xs ≡ drop (get_or ys 0 0 + 1) ys
      → slice_cmp nat_cmp (take (get_or xs 0 0) (drop 1 xs)) (take (get_or ys 0 0) (drop 1 ys)) ≡ zone_cmp (labels_of xs) (labels_of ys)
  in_order same =
      let first = take (get_or xs 0 0) (drop 1 xs) in
      let other = take (get_or ys 0 0) (drop 1 ys) in
      let above = labels_of (drop (get_or xs 0 0 + 1) xs) in
      sym (ap (λ ls. zone_cmp ls (labels_of ys)) labels
      ∙ (ap (λ ls. zone_cmp (first ∷ above) ls) (others ∙ ap (λ r. other ∷ labels_of r) (sym same))
      ∙ beside first other above))
