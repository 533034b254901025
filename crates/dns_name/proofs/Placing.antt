-- One piece behind another in a buffer.
use Rattle.std.proofs.Common.{◌≡◌, ℕ, ◌+◌, ◌≤◌, List, [], ◌∷◌, ◌++◌, length, take, drop, arith, ap, ◌∙◌, sym, append_assoc}
use Rattle.std.proofs.Common.{append-nil, length-append, drop-drop, get_or, ◌<◌}
use Rattle.std.specs.List.{flat_map}
use Rattle.std.proofs.lemmas.List.{take_at, drop_at, length-take-le, take_more}
use Rattle.std.proofs.lemmas.List.Concat.{flat_map-append}
use Rattle.dns_name.specs.Buffer.{written}
use Rattle.dns_name.specs.Written.{text_of_octet}

module _ (buffer : List ℕ) (at : ℕ) (first second : List ℕ) (n : ℕ) (there : n
    ≡ at + length first) (room : n + length second ≤ length buffer) where
  front : length (take at buffer ++ first) ≡ n
  front = length-append (take at buffer) first
      ∙ ap (λ k. k + length first) (length-take-le at buffer (omega arith)) ∙ sym there

  later : drop (n + length second) (written buffer at first)
      ≡ drop (at + length (first ++ second)) buffer
  later =
      let sum : at + length first + length second ≡ at + length (first ++ second) =
      omega (arith, length-append first second) in
      sym (drop-drop (length second) n (written buffer at first))
      ∙ ap (drop (length second))
      (drop_at (take at buffer ++ first) (drop (at + length first) buffer) n front)
      ∙ drop-drop (length second) (at + length first) buffer
      ∙ ap (λ k. drop k buffer) sum

  -- a piece that is placed behind another
  pub placed_twice : written (written buffer at first) n second ≡ written buffer at (first ++ second)
  placed_twice =
      ap (λ t. t ++ second ++ drop (n + length second) (written buffer at first))
      (take_at (take at buffer ++ first) (drop (at + length first) buffer) n front)
      ∙ ap (λ t. (take at buffer ++ first) ++ second ++ t) later
      ∙ ap (λ t. t ++ drop (at + length (first ++ second)) buffer)
      (append_assoc (take at buffer) first second)

-- one more octet of a label
pub placed_octet : (buffer into label after : List ℕ) (at end passed n : ℕ) → passed < length label
    → end ≡ at + length (flat_map text_of_octet (take passed label))
    → into ≡ written buffer at (flat_map text_of_octet (take passed label)) → n ≤ length buffer
    → after ≡ written into end (text_of_octet (get_or label passed 0))
    → n ≡ end + length (text_of_octet (get_or label passed 0))
    → (n ≡ at + length (flat_map text_of_octet (take (passed + 1) label)))
    × (after ≡ written buffer at (flat_map text_of_octet (take (passed + 1) label)))
placed_octet buffer into label after at end passed n inside behind so_far room now size =
    let piece = text_of_octet (get_or label passed 0) in
    let before = flat_map text_of_octet (take passed label) in
    let more : flat_map text_of_octet (take (passed + 1) label) ≡ before ++ piece =
    ap (flat_map text_of_octet) (take_more label passed 0 inside)
    ∙ flat_map-append text_of_octet (take passed label) (get_or label passed 0 ∷ [])
    ∙ ap (λ t. before ++ t) (append-nil piece) in (
      omega (arith, ap length more, length-append before piece),
      now ∙ ap (λ t. written t end piece) so_far
          ∙ placed_twice buffer at before piece end behind (omega arith)
          ∙ ap (written buffer at) (sym more),
    )
