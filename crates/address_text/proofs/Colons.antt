-- The texts of groups, one by one.
use Rattle.std.proofs.Common.{◌≡◌, ℕ, ◌+◌, ◌<◌, ◌≤◌, lt-ltb, le-ltb, refl, codes, drop, List, [], ◌∷◌, ◌++◌, length, take, get_or, ap, ◌∙◌, append-nil, append_assoc}
use Rattle.std.specs.List.{flat_map}
use Rattle.std.specs.Net.Text.{hex, groups_text, longest_zero_run, hex_groups_text}
use Rattle.std.proofs.lemmas.List.{take_more}
use Rattle.std.proofs.lemmas.List.Concat.{flat_map-append}

-- the text of one group more
pub groups_more : (first : ℕ) (rest : List ℕ) (i : ℕ) → i < length rest
    → groups_text (first ∷ take (i + 1) rest) ≡ groups_text (first ∷ take i rest) ++ (58 ∷ [])
    ++ hex (get_or rest i 0)
groups_more first rest i h =
    let after_colon : ℕ → List ℕ = λ t. 58 ∷ hex t in
    let before = flat_map after_colon (take i rest) in
    let next = get_or rest i 0 in
    ap (λ t. hex first ++ flat_map after_colon t) (take_more rest i 0 h)
    ∙ ap (λ t. hex first ++ t) (flat_map-append after_colon (take i rest) (next ∷ [])
    ∙ ap (λ t. before ++ t) (append-nil (after_colon next)))
    ∙ simp append_assoc

-- without a run of two zeros, all groups
pub plain : (segments : List ℕ) → (longest_zero_run segments).1 ≤ 1
    → hex_groups_text segments ≡ groups_text segments
unfolding hex_groups_text
plain segments h = rw (le-ltb 1 (longest_zero_run segments).1 h) refl

-- with one, the groups on its sides
pub around : (segments : List ℕ) (run : ℕ × ℕ) → run ≡ longest_zero_run segments → 1 < run.1
    → hex_groups_text segments ≡ groups_text (take run.0 segments) ++ codes "::"
    ++ groups_text (drop (run.0 + run.1) segments)
unfolding hex_groups_text
around segments run e h = rw (← e, lt-ltb 1 run.1 h) refl
