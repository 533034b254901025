-- The items of a list of eight.
use Rattle.std.proofs.Common.{◌≡◌, ℕ, suc, ◌<◌, List, ◌∷◌, length, get_or, drop, ap, sym, ◌∙◌, drop-cons, arith}
use Rattle.std.proofs.lemmas.List.{drop_all}
use Rattle.serde_json.specs.Data.{item, no_items}
use Rattle.serde_json.specs.declared.value.Value.{Value}
use Rattle.serde_json.specs.View.{view, items_view}

at : (xs : List Value) (k : ℕ) (v : Value) → k < length xs → v ≡ get_or xs k v
    → items_view (drop k xs) ≡ item (view v) (items_view (drop (suc k) xs))
at xs k v h e =
    ap items_view (drop-cons xs k v h ∙ ap (λ w. w ∷ drop (suc k) xs) (sym e))

pub eight_items : (xs : List Value) (a b c d e f g h : Value) → length xs ≡ 8
    → a ≡ get_or xs 0 a → b ≡ get_or xs 1 b → c ≡ get_or xs 2 c → d ≡ get_or xs 3 d
    → e ≡ get_or xs 4 e → f ≡ get_or xs 5 f → g ≡ get_or xs 6 g → h ≡ get_or xs 7 h
    → items_view xs ≡ item (view a) (item (view b) (item (view c) (item (view d)
    (item (view e) (item (view f) (item (view g) (item (view h) no_items)))))))
eight_items xs a b c d e f g h n ea eb ec ed ee ef eg eh =
    at xs 0 a (omega (arith, n)) ea ∙ ap (item (view a))
    (at xs 1 b (omega (arith, n)) eb ∙ ap (item (view b))
    (at xs 2 c (omega (arith, n)) ec ∙ ap (item (view c))
    (at xs 3 d (omega (arith, n)) ed ∙ ap (item (view d))
    (at xs 4 e (omega (arith, n)) ee ∙ ap (item (view e))
    (at xs 5 f (omega (arith, n)) ef ∙ ap (item (view f))
    (at xs 6 g (omega (arith, n)) eg ∙ ap (item (view g))
    (at xs 7 h (omega (arith, n)) eh ∙ ap (item (view h))
    (ap items_view (drop_all 8 xs (omega (arith, n)))))))))))
