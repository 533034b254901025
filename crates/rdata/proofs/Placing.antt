-- Pieces behind what stands before a place.
use Rattle.std.proofs.Common.{◌≡◌, ℕ, ◌+◌, ◌-◌, ◌≤◌, List, ◌++◌, length, take, drop, arith, ap, ◌∙◌, sym, length-append, drop-drop}
use Rattle.std.proofs.lemmas.List.{length-take-le}
use Rattle.std.proofs.Math.Seq.{drop-append_seam}

-- what stays behind a place stays behind a later one
pub drop_on : (m n : ℕ) (xs ys : List ℕ) → m ≤ n → drop m xs ≡ drop m ys → drop n xs ≡ drop n ys
drop_on m n xs ys h e =
    let sum : m + (n - m) ≡ n = omega arith in
    ap (λ k. drop k xs) (sym sum) ∙ sym (drop-drop (n - m) m xs) ∙ ap (drop (n - m)) e
    ∙ drop-drop (n - m) m ys ∙ ap (λ k. drop k ys) sum

-- behind a piece stands what stood there
pub kept_on : (new middle old piece : List ℕ) (start end : ℕ)
    → new ≡ take start middle ++ piece ++ drop end middle → end ≡ start + length piece
    → start ≤ length middle
    → drop start middle ≡ drop start old → drop end new ≡ drop end old
kept_on new middle old piece start end e size within kept =
    let front : length (take start middle ++ piece) ≡ end =
    length-append (take start middle) piece
    ∙ omega (arith, size, length-take-le start middle within) in
    let behind : drop end new ≡ drop end middle = ap (λ k. drop k new) (sym front)
    ∙ ap (drop (length (take start middle ++ piece))) e
    ∙ drop-append_seam (take start middle ++ piece) (drop end middle) in
    behind ∙ drop_on start end middle old (omega (arith, size)) kept
