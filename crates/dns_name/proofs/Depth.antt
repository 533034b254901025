-- Zone order, from the first labels to the root.
use Rattle.std.proofs.Common.{◌≡◌, ℕ, ◌<◌, ◌≤◌, List, [], ◌∷◌, ◌++◌, length, take, drop, arith, ap, ◌∙◌, sym, refl, Less, Equal, Greater}
use Rattle.std.specs.Prelude.{reverse}
use Rattle.std.specs.declared.cmp.Ordering.{Ordering}
use Rattle.std.specs.Ordering.{nat_cmp, ordering_then}
use Rattle.std.specs.Cmp.Lexicographic.{slice_cmp}
use Rattle.std.proofs.lemmas.List.{reverse-append, length-reverse, take-append-drop, length-take-le}
use Rattle.std.specs.Cmp.Lexicographic.{nat_list_cmp_total}
use Rattle.std.proofs.lemmas.Cmp.{lists_total, tied_itself}
use Rattle.dns_name.specs.Order.{zone_cmp}

then_assoc : (a b d : Ordering)
    → ordering_then (ordering_then a b) d ≡ ordering_then a (ordering_then b d)
then_assoc Less b d = refl
then_assoc Equal b d = refl
then_assoc Greater b d = refl

then_equal : (a : Ordering) → ordering_then a Equal ≡ a
then_equal Less = refl
then_equal Equal = refl
then_equal Greater = refl

-- lists with fronts of one length
fronts : (xs ys s t : List (List ℕ)) → length xs ≡ length ys
    → slice_cmp (slice_cmp nat_cmp) (xs ++ s) (ys ++ t)
    ≡ ordering_then (slice_cmp (slice_cmp nat_cmp) xs ys)
    (slice_cmp (slice_cmp nat_cmp) s t)
fronts [] [] s t h = refl
fronts [] (y ∷ ys) s t h = absurd (omega arith)
fronts (x ∷ xs) [] s t h = absurd (omega arith)
fronts (x ∷ xs) (y ∷ ys) s t h =
    ap (ordering_then (slice_cmp nat_cmp x y)) (fronts xs ys s t (omega arith))
    ∙ sym (then_assoc (slice_cmp nat_cmp x y) (slice_cmp (slice_cmp nat_cmp) xs ys)
    (slice_cmp (slice_cmp nat_cmp) s t))

-- the first labels of two names are compared last
pub deeper : (first other : List (List ℕ)) (labels others : List (List ℕ))
    → length labels ≡ length others
    → zone_cmp (first ++ labels) (other ++ others)
    ≡ ordering_then (zone_cmp labels others) (zone_cmp first other)
deeper first other labels others h =
    ap (λ t. slice_cmp (slice_cmp nat_cmp) t (reverse (other ++ others)))
    (reverse-append first labels)
    ∙ ap (slice_cmp (slice_cmp nat_cmp) (reverse labels ++ reverse first))
    (reverse-append other others)
    ∙ fronts (reverse labels) (reverse others) (reverse first) (reverse other)
    (omega (arith, length-reverse labels, length-reverse others))

one_label : (x y : List ℕ) → zone_cmp (x ∷ []) (y ∷ []) ≡ slice_cmp nat_cmp x y
one_label x y = then_equal (slice_cmp nat_cmp x y)

-- one label, and the order so far of those in front of it
one_deeper : (x y : List ℕ) (labels others : List (List ℕ)) (order : Ordering)
    → length labels ≡ length others
    → ordering_then (zone_cmp (x ∷ labels) (y ∷ others)) order
    ≡ ordering_then (zone_cmp labels others)
    (ordering_then (slice_cmp nat_cmp x y) order)
one_deeper x y labels others order h =
    ap (λ o. ordering_then o order) (deeper (x ∷ []) (y ∷ []) labels others h
    ∙ ap (ordering_then (zone_cmp labels others)) (one_label x y))
    ∙ then_assoc (zone_cmp labels others) (slice_cmp nat_cmp x y) order

none_less : (xs : List (List ℕ)) → 0 < length xs → slice_cmp (slice_cmp nat_cmp) [] xs ≡ Less
none_less [] h = absurd (omega arith)
none_less (x ∷ xs) h = refl

some_greater : (xs : List (List ℕ)) → 0 < length xs → slice_cmp (slice_cmp nat_cmp) xs [] ≡ Greater
some_greater [] h = absurd (omega arith)
some_greater (x ∷ xs) h = refl

-- a name and the part of a longer one that is as deep
pub shorter : (labels others : List (List ℕ)) (k : ℕ) → 0 < k → k ≤ length others
    → length labels ≡ length (drop k others)
    → zone_cmp labels others ≡ ordering_then (zone_cmp labels (drop k others)) Less
shorter labels others k some within h =
    ap (zone_cmp labels) (sym (take-append-drop k others))
    ∙ deeper [] (take k others) labels (drop k others) h
    ∙ ap (ordering_then (zone_cmp labels (drop k others)))
    (none_less (reverse (take k others))
    (omega (arith, length-reverse (take k others), length-take-le k others within)))

pub longer : (labels others : List (List ℕ)) (k : ℕ) → 0 < k → k ≤ length labels
    → length (drop k labels) ≡ length others
    → zone_cmp labels others ≡ ordering_then (zone_cmp (drop k labels) others) Greater
longer labels others k some within h =
    ap (λ t. zone_cmp t others) (sym (take-append-drop k labels))
    ∙ deeper (take k labels) [] (drop k labels) others h
    ∙ ap (ordering_then (zone_cmp (drop k labels) others))
    (some_greater (reverse (take k labels))
    (omega (arith, length-reverse (take k labels), length-take-le k labels within)))

pub as_deep : (labels others : List (List ℕ))
    → zone_cmp labels others ≡ ordering_then (zone_cmp labels others) Equal
as_deep labels others = sym (then_equal (zone_cmp labels others))

-- at the root nothing is compared
pub at_root : (labels others : List (List ℕ)) (order : Ordering) → labels ≡ []
    → length labels ≡ length others
    → ordering_then (zone_cmp labels others) order ≡ order
at_root [] [] order e h = refl
at_root [] (y ∷ others) order e h = absurd (omega arith)
at_root (x ∷ labels) others order e h = absurd (cc)

-- the same, where names, labels and orders are known by equations
pub nearer : (labels others : List (List ℕ)) (x y : List ℕ) (rest other_rest : List (List ℕ))
    (label other : List ℕ)
    (order first now : Ordering) → labels ≡ x ∷ rest → others ≡ y ∷ other_rest
    → length rest ≡ length other_rest → label ≡ x
    → other ≡ y → first ≡ slice_cmp nat_cmp label other → now ≡ ordering_then first order
    → ordering_then (zone_cmp labels others) order ≡ ordering_then (zone_cmp rest other_rest) now
nearer labels others x y rest other_rest label other order first now e f depth g h o n =
    ap (λ ls. ordering_then (zone_cmp ls others) order) e
    ∙ ap (λ ls. ordering_then (zone_cmp (x ∷ rest) ls) order) f
    ∙ one_deeper x y rest other_rest order depth
    ∙ ap (λ l. ordering_then (zone_cmp rest other_rest)
    (ordering_then (slice_cmp nat_cmp l y) order)) (sym g)
    ∙ ap (λ l. ordering_then (zone_cmp rest other_rest)
    (ordering_then (slice_cmp nat_cmp label l) order)) (sym h)
    ∙ ap (λ a. ordering_then (zone_cmp rest other_rest) (ordering_then a order)) (sym o)
    ∙ ap (ordering_then (zone_cmp rest other_rest)) (sym n)

-- the order of a name and itself
same_order : (xs : List (List ℕ)) → slice_cmp (slice_cmp nat_cmp) xs xs ≡ Equal
same_order xs = tied_itself (lists_total nat_list_cmp_total) xs

-- A parent stands before what is below it.
pub below : (first labels : List (List ℕ)) → 0 < length first
    → zone_cmp labels (first ++ labels) ≡ Less
below first labels some =
    deeper [] first labels labels refl
    ∙ ap (λ o. ordering_then o (slice_cmp (slice_cmp nat_cmp) [] (reverse first)))
    (same_order (reverse labels))
    ∙ none_less (reverse first) (omega (arith, length-reverse first))
