-- One cell changed: what each of the others keeps, and how far a chain goes.
use Rattle.std.proofs.Common.{◌≡◌, ℕ, suc, ◌-◌, ◌/◌, ◌%◌, ◌<◌, ◌≤◌, ◌≢◌, List, ◌++◌, take, drop, length, ap, sym, refl, subst, ◌∙◌, arith, set, get_or-set_other, get_or-set_same, length-set, length-drop, inl, inr}
use Rattle.std.specs.Prelude.{◌⊎◌}
use Rattle.std.proofs.lemmas.List.{take_all}
use Rattle.octet_region.specs.declared.cells.Cell.{Cell}
use Rattle.octet_region.specs.Cells.{cells_for, blank, cell_at, octets_at, number_at, begin_at, next_at, write_at}
use Rattle.octet_region.specs.Chains.{jump, IsInside, written}

pub more_cells : (n : ℕ) → 32 < n → cells_for n ≡ suc (cells_for (n - 32))
more_cells n h = omega arith

pub one_cell : (n : ℕ) → n ≤ 32 → cells_for n ≡ 1
one_cell n h = omega arith

pub some_cells : (n : ℕ) → cells_for n ≡ suc (cells_for n - 1)
some_cells n = omega arith

pub same_or_not : (a b : ℕ) → (a ≡ b) ⊎ (a ≢ b)
same_or_not a b = grind arith

-- a field of each cell stays where the changed cell keeps it
pub field_set : {X : Type 0} (f : Cell → X) (cells : List Cell) (c : ℕ) (cell : Cell) → c < length cells
    → f cell ≡ f (cell_at cells c) → (d : ℕ) → f (cell_at (set cells c cell) d) ≡ f (cell_at cells d)
field_set f cells c cell lt same d =
    elim (same_or_not d c) [
      | inl e ↦
          (subst (λ k. f (cell_at (set cells c cell) k) ≡ f (cell_at cells k)) (sym e)
          (ap f (get_or-set_same cells c cell blank lt) ∙ same))
      | inr ne ↦ ap f (get_or-set_other cells c d cell blank ne)
    ]

pub next_write : (cells : List Cell) (c : ℕ) (piece : List ℕ) → c < length cells
    → next_at (write_at cells c piece) ≡ next_at cells
next_write cells c piece lt =
    λ i d. field_set (λ x. x.link / 2 - 33) cells c
    (record (cell_at cells c) { octets = piece ++ drop (length piece) (octets_at cells c) }) lt refl d i

pub number_write : (cells : List Cell) (c : ℕ) (piece : List ℕ) → c < length cells
    → number_at (write_at cells c piece) ≡ number_at cells
number_write cells c piece lt =
    λ i d. field_set (λ x. x.link / 2) cells c
    (record (cell_at cells c) { octets = piece ++ drop (length piece) (octets_at cells c) }) lt refl d i

pub begin_write : (cells : List Cell) (c : ℕ) (piece : List ℕ) → c < length cells
    → begin_at (write_at cells c piece) ≡ begin_at cells
begin_write cells c piece lt =
    λ i d. field_set (λ x. x.link % 2) cells c
    (record (cell_at cells c) { octets = piece ++ drop (length piece) (octets_at cells c) }) lt refl d i

pub inside_on : (cells : List Cell) (c : ℕ) (rest : List ℕ) → 32 < length rest
    → IsInside (next_at cells) (length cells) (cells_for (length rest)) c
    → (c < length cells)
    × IsInside (next_at cells) (length cells) (cells_for (length (drop 32 rest))) (next_at cells c)
inside_on cells c rest more h =
    let e : cells_for (length rest)
    ≡ suc (cells_for (length (drop 32 rest))) = omega (arith, length-drop 32 rest) in
    subst (λ n. IsInside (next_at cells) (length cells) n c) e h

pub inside_write : (cells : List Cell) (c : ℕ) (rest : List ℕ) → 32 < length rest
    → IsInside (next_at cells) (length cells) (cells_for (length rest)) c
    → IsInside (next_at (write_at cells c (take 32 rest))) (length (write_at cells c (take 32 rest)))
    (cells_for (length (drop 32 rest))) (next_at cells c)
inside_write cells c rest more h =
    let w = inside_on cells c rest more h in
    subst (λ (f : ℕ → ℕ). IsInside f (length (write_at cells c (take 32 rest)))
    (cells_for (length (drop 32 rest))) (next_at cells c)) (sym (next_write cells c (take 32 rest) w.0))
    (subst (λ k. IsInside (next_at cells) k (cells_for (length (drop 32 rest))) (next_at cells c))
    (sym
    (length-set cells c
    (record
    (cell_at cells c) { octets = take 32 rest ++ drop (length (take 32 rest)) (octets_at cells c) })))
    w.1)

pub written_on : (cells : List Cell) (c : ℕ) (rest : List ℕ) → 32 < length rest
    → written cells (cells_for (length rest)) c rest
    ≡ written (write_at cells c (take 32 rest)) (cells_for (length (drop 32 rest))) (next_at cells c)
    (drop 32 rest)
written_on cells c rest more =
    let e : cells_for (length rest)
    ≡ suc (cells_for (length (drop 32 rest))) = omega (arith, length-drop 32 rest) in
    ap (λ n. written cells n c rest) e

pub jump_on : (cells : List Cell) (c : ℕ) (rest : List ℕ) → 32 < length rest → c < length cells
    → jump (next_at cells) (cells_for (length rest) - 1) c
    ≡ jump (next_at (write_at cells c (take 32 rest))) (cells_for (length (drop 32 rest)) - 1)
    (next_at cells c)
jump_on cells c rest more lt =
    let e : cells_for (length rest) - 1
    ≡ suc (cells_for (length (drop 32 rest)) - 1) = omega (arith, length-drop 32 rest) in
    ap (λ n. jump (next_at cells) n c) e
    ∙ ap (λ (f : ℕ → ℕ). jump f (cells_for (length (drop 32 rest)) - 1) (next_at cells c))
    (sym (next_write cells c (take 32 rest) lt))

pub written_last : (cells : List Cell) (c : ℕ) (rest : List ℕ) → length rest ≤ 32
    → written cells (cells_for (length rest)) c rest ≡ write_at cells c rest
written_last cells c rest few =
    let e = take_all 32 rest few in
    ap (λ n. written cells n c rest) (one_cell (length rest) few) ∙ ap (λ p. write_at cells c p) e

pub jump_last : (cells : List Cell) (c : ℕ) (rest : List ℕ) → length rest ≤ 32
    → jump (next_at cells) (cells_for (length rest) - 1) c ≡ c
jump_last cells c rest few =
    let e : cells_for (length rest) - 1 ≡ 0 = omega (arith, few) in ap (λ n. jump (next_at cells) n c) e

pub inside_last : (cells : List Cell) (c n : ℕ) → IsInside (next_at cells) (length cells) (cells_for n) c
    → c < length cells
inside_last cells c n h =
    let e : IsInside (next_at cells) (length cells) (suc (cells_for n - 1)) c =
    subst (λ n. IsInside (next_at cells) (length cells) n c) (some_cells n) h in e.0

-- one turn of the loop that writes
pub write_step : (cells : List Cell) (c : ℕ) (rest : List ℕ) (new : List Cell) (on : ℕ) (left : List ℕ)
    → 32 < length rest
    → IsInside (next_at cells) (length cells) (cells_for (length rest)) c
    → new ≡ write_at cells c (take 32 rest) → on ≡ next_at cells c → left ≡ drop 32 rest
    → IsInside (next_at new) (length new) (cells_for (length left)) on
    × (written cells (cells_for (length rest)) c rest ≡ written new (cells_for (length left)) on left)
    × (jump (next_at cells) (cells_for (length rest) - 1) c
    ≡ jump (next_at new) (cells_for (length left) - 1) on)
write_step cells c rest new on left more h e f g =
    let w = inside_on cells c rest more h in (
      rw (e, f, g) (inside_write cells c rest more h),
      rw (e, f, g) (written_on cells c rest more),
      rw
          (e, f, g) (jump_on cells c rest more w.0),
    )
