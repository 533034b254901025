-- Pieces that were written, one behind another.
use Rattle.std.proofs.Common.{◌≡◌, ℕ, ◌+◌, ◌<◌, List, ◌++◌, length, take, drop, Option, Some, arith, ap, ◌∙◌, sym, append_assoc, append-nil}
use Rattle.std.proofs.lemmas.List.{take-append-le, length-append}
use Rattle.std.proofs.Math.Seq.{take-add, take-append-add}
use Rattle.whole_writing.specs.Output.{FirstPieceFails, OutputOf, PiecesJoin}
use Rattle.whole_writing.specs.declared.output.Output.TheVariants as output

-- one more piece written
pub write_step : (held piece rest : List ℕ) (before after : Option (List ℕ)) (at n : ℕ)
    → rest ≡ drop at piece → before ≡ Some (held ++ take at piece)
    → ((bytes : List ℕ) → before ≡ Some bytes → after ≡ Some (bytes ++ take n rest))
    → after ≡ Some (held ++ take (at + n) piece)
write_step held piece rest before after at n r b gives = gives _ b
    ∙ ap (λ t. Some ((held ++ take at piece) ++ take n t)) r
    ∙ ap Some (append_assoc held (take at piece) (take n (drop at piece))
    ∙ ap (λ t. held ++ t) (sym (take-add at n piece)))

-- nothing more was written
pub stuck : (held piece rest : List ℕ) (before after : Option (List ℕ)) (at n : ℕ)
    → at < length piece → n ≡ 0 → before ≡ Some (held ++ take at piece)
    → ((bytes : List ℕ) → before ≡ Some bytes → after ≡ Some (bytes ++ take n rest))
    → (m : ℕ) × (m < length piece) × (after ≡ Some (held ++ take m piece))
stuck held piece rest before after at n h z b gives = (
  at,
  h,
  gives _ b ∙ ap (λ m. Some ((held ++ take at piece) ++ take m rest)) z
      ∙ ap Some (append-nil (held ++ take at piece)),
)

-- two pieces as one
pub joined : PiecesJoin
joined held first second after output.Whole whole = whole ∙ ap Some (append_assoc held first second)
joined held first second after output.Failed (n, part, so) = (
  length first + n,
  omega (arith, part, length-append first second),
  so ∙ ap Some (append_assoc held first (take n second)
      ∙ ap (λ t. held ++ t) (sym (take-append-add first second n))),
)

pub first_fails : FirstPieceFails
first_fails held first second after (n, part, so) = (
  n,
  omega (arith, part, length-append first second),
  so ∙ ap (λ t. Some (held ++ t)) (sym (take-append-le n first second (omega (arith, part)))),
)
