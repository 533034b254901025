-- Octets written along a chain are those that are read there.
use Rattle.std.proofs.Common.{◌≡◌, ℕ, zero, suc, ◌+◌, ◌-◌, ◌<◌, ◌≤◌, ◌≢◌, List, [], ◌∷◌, ◌++◌, take, drop, length, ap, sym, refl, subst, ◌∙◌, arith, get_or-set_other, get_or-set_same, length-append, length-set, length-drop, length-take, inl, inr}
use Rattle.std.specs.Prelude.{min}
use Rattle.std.proofs.lemmas.List.{take-append-drop}
use Rattle.std.proofs.Math.Seq.{take-append_seam}
use Rattle.octet_region.specs.declared.cells.Cell.{Cell}
use Rattle.octet_region.specs.Cells.{cells_for, blank, cell_at, octets_at, number_at, begin_at, next_at, write_at}
use Rattle.octet_region.specs.Chains.{IsInside, written, Walk}
use Rattle.octet_region.specs.Shape.{AreFull}
use Rattle.octet_region.proofs.Picks.{at_or_not}
use Rattle.octet_region.proofs.Places.{next_write, number_write, begin_write}

pub length_write : (cells : List Cell) (c : ℕ) (piece : List ℕ)
    → length (write_at cells c piece) ≡ length cells
length_write cells c piece =
    length-set cells c
    (record (cell_at cells c) { octets = piece ++ drop (length piece) (octets_at cells c) })

octets_write : (cells : List Cell) (c : ℕ) (piece : List ℕ) → c < length cells
    → octets_at (write_at cells c piece) c ≡ piece ++ drop (length piece) (octets_at cells c)
octets_write cells c piece lt =
    ap (λ (x : Cell). x.octets)
    (get_or-set_same cells c
    (record (cell_at cells c) { octets = piece ++ drop (length piece) (octets_at cells c) }) blank lt)

octets_other : (cells : List Cell) (c : ℕ) (piece : List ℕ) (d : ℕ) → d ≢ c
    → octets_at (write_at cells c piece) d ≡ octets_at cells d
octets_other cells c piece d ne =
    ap (λ (x : Cell). x.octets)
    (get_or-set_other cells c d
    (record (cell_at cells c) { octets = piece ++ drop (length piece) (octets_at cells c) }) blank ne)

pub inside_same : (cells : List Cell) (c : ℕ) (piece : List ℕ) (n d : ℕ) → c < length cells
    → IsInside (next_at cells) (length cells) n d
    → IsInside (next_at (write_at cells c piece)) (length (write_at cells c piece)) n d
inside_same cells c piece n d lt h =
    subst (λ (f : ℕ → ℕ). IsInside f (length (write_at cells c piece)) n d)
    (sym (next_write cells c piece lt))
    (subst (λ k. IsInside (next_at cells) k n d) (sym (length_write cells c piece)) h)

pub walk_same : (owner rank : ℕ → ℕ) (cells : List Cell) (c : ℕ) (piece : List ℕ) (o b n d : ℕ)
    → c < length cells
    → Walk owner rank (number_at cells) (length cells) o b n d
    → Walk owner rank (number_at (write_at cells c piece)) (length (write_at cells c piece)) o b n d
walk_same owner rank cells c piece o b n d lt h =
    subst (λ (f : ℕ → ℕ). Walk owner rank f (length (write_at cells c piece)) o b n d)
    (sym (number_write cells c piece lt))
    (subst (λ k. Walk owner rank (number_at cells) k o b n d) (sym (length_write cells c piece)) h)

pub length_written : (cells : List Cell) (n c : ℕ) (octets : List ℕ)
    → length (written cells n c octets) ≡ length cells
length_written cells zero c octets = refl
length_written cells (suc n) c octets =
    length_written (write_at cells c (take 32 octets)) n (next_at cells c) (drop 32 octets)
    ∙ length_write cells c (take 32 octets)

pub next_written : (cells : List Cell) (n c : ℕ) (octets : List ℕ)
    → IsInside (next_at cells) (length cells) n c → next_at (written cells n c octets) ≡ next_at cells
next_written cells zero c octets h = refl
next_written cells (suc n) c octets h =
    next_written (write_at cells c (take 32 octets)) n (next_at cells c) (drop 32 octets)
    (inside_same cells c (take 32 octets) n (next_at cells c) h.0 h.1)
    ∙ next_write cells c (take 32 octets) h.0

pub number_written : (cells : List Cell) (n c : ℕ) (octets : List ℕ)
    → IsInside (next_at cells) (length cells) n c → number_at (written cells n c octets) ≡ number_at cells
number_written cells zero c octets h = refl
number_written cells (suc n) c octets h =
    number_written (write_at cells c (take 32 octets)) n (next_at cells c) (drop 32 octets)
    (inside_same cells c (take 32 octets) n (next_at cells c) h.0 h.1)
    ∙ number_write cells c (take 32 octets) h.0

pub begin_written : (cells : List Cell) (n c : ℕ) (octets : List ℕ)
    → IsInside (next_at cells) (length cells) n c → begin_at (written cells n c octets) ≡ begin_at cells
begin_written cells zero c octets h = refl
begin_written cells (suc n) c octets h =
    begin_written (write_at cells c (take 32 octets)) n (next_at cells c) (drop 32 octets)
    (inside_same cells c (take 32 octets) n (next_at cells c) h.0 h.1)
    ∙ begin_write cells c (take 32 octets) h.0

-- cells stay full
full_write : (cells : List Cell) (c : ℕ) (piece : List ℕ) → c < length cells → length piece ≤ 32
    → AreFull cells → AreFull (write_at cells c piece)
full_write cells c piece lt few full = λ d l. elim (at_or_not d c) [
  | inl e ↦
      (let there = ap length (octets_write cells c piece lt) in
      let old = full c lt in
      let parts = length-append piece (drop (length piece) (octets_at cells c)) in
      let rest = length-drop (length piece) (octets_at cells c) in
      ap (λ k. length (octets_at (write_at cells c piece) k)) e ∙ omega (arith, there, old, parts, rest, few))
  | inr ne ↦
      (ap length (octets_other cells c piece d ne) ∙ full d (omega (arith, l, length_write cells c piece)))
]

pub full_written : (cells : List Cell) (n c : ℕ) (octets : List ℕ)
    → IsInside (next_at cells) (length cells) n c → AreFull cells → AreFull (written cells n c octets)
full_written cells zero c octets h full = full
full_written cells (suc n) c octets h full =
    full_written (write_at cells c (take 32 octets)) n (next_at cells c) (drop 32 octets)
    (inside_same cells c (take 32 octets) n (next_at cells c) h.0 h.1)
    (full_write cells c (take 32 octets) h.0 (omega (arith, length-take 32 octets)) full)

-- the octets in n cells, of which there are so many
abbrev pub collect : (octets : ℕ → List ℕ) (next : ℕ → ℕ) → (n size c : ℕ) → List ℕ
collect octets next zero size c = []
collect octets next (suc n) size c = take (min size 32) (octets c) ++ collect octets next n (size - 32) (next c)

-- cells that are not on the way stay
pub written_other : (owner rank : ℕ → ℕ) (cells : List Cell) (o b n c : ℕ) (octets : List ℕ)
    → Walk owner rank (number_at cells) (length cells) o b n c
    → (d : ℕ) → (owner d ≡ o → b ≤ rank d → rank d < b + n → ⊥)
    → octets_at (written cells n c octets) d ≡ octets_at cells d
written_other owner rank cells o b zero c octets w d off = refl
written_other owner rank cells o b (suc n) c octets w d off =
    let ne : d ≢ c =
    λ e. off (ap owner e ∙ w.1) (omega (arith, ap rank e, w.2)) (omega (arith, ap rank e, w.2)) in
    written_other owner rank (write_at cells c (take 32 octets)) o b n (next_at cells c) (drop 32 octets)
    (walk_same owner rank cells c (take 32 octets) o b n (next_at cells c) w.0 w.4) d
    (λ x y z. off x y (omega (arith, z)))
    ∙ octets_other cells c (take 32 octets) d ne

-- of a cell as much is read as was written
piece_read : (xs ys : List ℕ) → take (min (length xs) 32) (take 32 xs ++ ys) ≡ take 32 xs
piece_read xs ys =
    let e : min (length xs) 32 ≡ length (take 32 xs) = omega (arith, length-take 32 xs) in
    subst (λ k. take k (take 32 xs ++ ys) ≡ take 32 xs) (sym e) (take-append_seam (take 32 xs) ys)

nothing : (xs : List ℕ) → length xs ≤ 32 → [] ≡ drop 32 xs
nothing xs h =
    let e : length (drop 32 xs) ≡ 0 = omega (arith, length-drop 32 xs) in
    no_items (drop 32 xs) e
  where
    no_items : (ys : List ℕ) → length ys ≡ 0 → [] ≡ ys
    no_items [] e = refl
    no_items (y ∷ ys) e = absurd (omega arith)

-- the first cell, and then the rest
first_read : (owner rank : ℕ → ℕ) (cells : List Cell) (o b n c : ℕ) (octets : List ℕ)
    → Walk owner rank (number_at cells) (length cells) o b (suc n) c
    → collect (octets_at (written cells (suc n) c octets)) (next_at cells) n (length octets - 32)
    (next_at cells c) ≡ drop 32 octets
    → collect (octets_at (written cells (suc n) c octets)) (next_at cells) (suc n) (length octets) c ≡ octets
first_read owner rank cells o b n c octets w rest =
    let changed = write_at cells c (take 32 octets) in
    let on = walk_same owner rank cells c (take 32 octets) o b n (next_at cells c) w.0 w.4 in
    let here : octets_at (written changed n (next_at cells c) (drop 32 octets)) c
    ≡ take 32 octets ++ drop (length (take 32 octets)) (octets_at cells c) =
    written_other owner rank changed o b n (next_at cells c) (drop 32 octets) on c
    (λ x y z. omega (arith, z, w.2)) ∙ octets_write cells c (take 32 octets) w.0
    in
    let first : take (min (length octets) 32)
    (octets_at (written changed n (next_at cells c) (drop 32 octets)) c) ≡ take 32 octets =
    ap (λ x. take (min (length octets) 32) x) here
    ∙ piece_read octets (drop (length (take 32 octets)) (octets_at cells c))
    in
    ap (λ x. x ++ collect (octets_at (written changed n (next_at cells c) (drop 32 octets))) (next_at cells) n
    (length octets - 32) (next_at cells c)) first
    ∙ ap (λ x. take 32 octets ++ x) rest
    ∙ take-append-drop 32 octets

pub written_read : (owner rank : ℕ → ℕ) (cells : List Cell) (o b n c : ℕ) (octets : List ℕ)
    → Walk owner rank (number_at cells) (length cells) o b n c
    → n ≡ cells_for (length octets)
    → collect (octets_at (written cells n c octets)) (next_at cells) n (length octets) c ≡ octets
written_read owner rank cells o b zero c octets w e = absurd (omega arith)
written_read owner rank cells o b (suc zero) c octets w e =
    first_read owner rank cells o b zero c octets w (nothing octets (omega arith))
written_read owner rank cells o b (suc (suc n)) c octets w e =
    let changed = write_at cells c (take 32 octets) in
    let on = walk_same owner rank cells c (take 32 octets) o b (suc n) (next_at cells c) w.0 w.4 in
    let ih : collect (octets_at (written changed (suc n) (next_at cells c) (drop 32 octets)))
    (next_at changed) (suc n) (length (drop 32 octets)) (next_at cells c) ≡ drop 32 octets =
    written_read owner rank changed o b (suc n) (next_at cells c) (drop 32 octets) on
    (omega (arith, length-drop 32 octets))
    in
    let f = next_write cells c (take 32 octets) w.0 in
    let g : length (drop 32 octets) ≡ length octets - 32 = length-drop 32 octets in
    let rest : collect (octets_at (written changed (suc n) (next_at cells c) (drop 32 octets)))
    (next_at cells) (suc n) (length octets - 32) (next_at cells c) ≡ drop 32 octets =
    subst (λ k. collect (octets_at (written changed (suc n) (next_at cells c) (drop 32 octets)))
    (next_at cells) (suc n) k (next_at cells c) ≡ drop 32 octets) g
    (subst
    (λ (h : ℕ → ℕ). collect (octets_at (written changed (suc n) (next_at cells c) (drop 32 octets))) h
    (suc n) (length (drop 32 octets)) (next_at cells c) ≡ drop 32 octets) f ih)
    in
    first_read owner rank cells o b (suc n) c octets w rest
