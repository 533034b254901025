-- The ids of children, one after another.
use Rattle.std.proofs.Common.{◌≡◌, ℕ, ◌+◌, ◌<◌, List, [], ◌∷◌, ◌++◌, true, length, drop, get_or, ap, sym, ◌∙◌}
use Rattle.std.proofs.Common.{append_assoc, add-one, drop-cons, refl}
use Rattle.std.specs.Prelude.{map, nat_lt}
use Rattle.std.proofs.lemmas.Bool.{lt-ltb}
use Rattle.std.proofs.Common.{arith}
use Rattle.reply_words.specs.Json.{check_text, items_of}
use Rattle.serde_json.specs.Written.{comma_if, compact_text, items_text}

-- what is written and what is left, as one more child is written
pub child_more : (before children : List ℕ) (i : ℕ) → i < length children
    → (before ++ (comma_if (nat_lt 0 i) ++ compact_text (check_text (get_or children i 0))))
    ++ items_text (nat_lt 0 (i + 1)) (items_of (map check_text (drop (i + 1) children)))
    ≡ before ++ items_text (nat_lt 0 i) (items_of (map check_text (drop i children)))
child_more before children i h =
    let child = compact_text (check_text (get_or children i 0)) in
    let rest = items_text true (items_of (map check_text (drop (i + 1) children))) in
    ap (λ later. (before ++ (comma_if (nat_lt 0 i) ++ child))
    ++ items_text later (items_of (map check_text (drop (i + 1) children))))
    (lt-ltb 0 (i + 1) (omega arith))
    ∙ append_assoc before (comma_if (nat_lt 0 i) ++ child) rest
    ∙ ap (λ t. before ++ t) (
    append_assoc (comma_if (nat_lt 0 i)) child rest
    ∙ ap (λ k. comma_if (nat_lt 0 i) ++ (child ++ items_text true (items_of (map check_text (drop k children))))) (add-one i)
    ∙ ap (λ xs. items_text (nat_lt 0 i) (items_of (map check_text xs))) (sym (drop-cons children i 0 h)))
