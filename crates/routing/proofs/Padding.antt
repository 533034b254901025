-- Texts at the front of arrays.
use Rattle.std.proofs.Common.{◌≡◌, ℕ, List, ◌++◌, length, take, drop, ap, ◌∙◌, sym, replicate, subst}
use Rattle.std.proofs.lemmas.List.{drop-replicate}
use Rattle.std.proofs.Math.Seq.{take-append_seam}
use Rattle.routing.specs.Padded.{IsPadded, padded}

-- an array of zeros with a text over its front
pub filled : (Is : List ℕ → Type 0) (text array : List ℕ) (most : ℕ)
    → array ≡ text ++ drop (length text) (replicate most 0) → Is text
    → IsPadded array (length text) most × Is (take (length text) array)
filled Is text array most e is =
    let front : take (length text) array ≡ text = ap (take (length text)) e
    ∙ take-append_seam text (drop (length text) (replicate most 0)) in
    let zeros : array ≡ padded most text = e
    ∙ ap (λ t. text ++ t) (drop-replicate (length text) most 0) in (
      record { size = ap length front; bytes = zeros ∙ ap (padded most) (sym front) },
      subst Is (sym front) is,
    )
