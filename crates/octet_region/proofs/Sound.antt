-- A region's cells after a put, a free and a new cell.
use Rattle.std.proofs.Common.{◌≡◌, ℕ, zero, suc, ◌+◌, ◌-◌, ◌*◌, ◌/◌, ◌%◌, ◌<◌, ◌≤◌, ◌≢◌, ◌^◌, List, [], ◌∷◌, ◌++◌, length, ap, sym, refl, subst, ◌∙◌, arith, get_or-set_other, get_or-set_same, length-set, length-append, Some, None, inl, inr}
use Rattle.std.proofs.Math.ListN.{get_or-append}
use Rattle.std.proofs.Math.Seq.{get_or-append_seam}
use Rattle.octet_region.specs.declared.cells.Cell.{Cell}
use Rattle.octet_region.specs.Cells.{cells_for, blank, new_cell, cell_at, octets_at, number_at, begin_at, next_at, number_as, begin_as}
use Rattle.octet_region.specs.Chains.{jump, IsInside, gather, written, octets_in, steps_in, Walk}
use Rattle.octet_region.specs.Shape.{octets_by, octets_of, AreFull, IsChain, IsShaped, IsIntact}
use Rattle.octet_region.proofs.Picks.{at_or_not}
use Rattle.octet_region.proofs.Places.{field_set, some_cells}
use Rattle.octet_region.proofs.Shapes.{unmarked, live_ends, put_shape, put_told, put_keeps, free_shape, free_keeps, more_shape, more_keeps}
use Rattle.octet_region.proofs.Told.{walk_steps, walk_length}
use Rattle.octet_region.proofs.Few.{walk_few}
use Rattle.octet_region.proofs.Walks.{jump_suc, walk_front, walk_inside, walk_last}
use Rattle.octet_region.proofs.Written.{collect, length_written, number_written, begin_written, full_written, written_other, written_read}

-- a cell with another number, and one with another beginning
module _ (cells : List Cell) (c v : ℕ) (lt : c < length cells) where
  numbered : Cell
  numbered = record (cell_at cells c) { link = 2 * v + begin_at cells c }

  octets_number : octets_at (number_as cells c v) ≡ octets_at cells
  octets_number =
      λ i d. field_set (λ (x : Cell). x.octets) cells c (record (cell_at cells c) { link = 2 * v + begin_at cells c })
      lt refl d i

  begin_number : begin_at (number_as cells c v) ≡ begin_at cells
  begin_number =
      λ i d. field_set (λ (x : Cell). x.link % 2) cells c
      (record (cell_at cells c) { link = 2 * v + begin_at cells c }) lt (omega arith) d i

  number_here : number_at (number_as cells c v) c ≡ v
  number_here =
      ap (λ (x : Cell). x.link / 2)
      (get_or-set_same cells c (record (cell_at cells c) { link = 2 * v + begin_at cells c }) blank lt)
      ∙ omega arith

  number_there : (d : ℕ) → d ≢ c → number_at (number_as cells c v) d ≡ number_at cells d
  number_there d ne =
      ap (λ (x : Cell). x.link / 2)
      (get_or-set_other cells c d (record (cell_at cells c) { link = 2 * v + begin_at cells c }) blank ne)

  length_number : length (number_as cells c v) ≡ length cells
  length_number = length-set cells c (record (cell_at cells c) { link = 2 * v + begin_at cells c })

  octets_begin : octets_at (begin_as cells c v) ≡ octets_at cells
  octets_begin =
      λ i d. field_set (λ (x : Cell). x.octets) cells c (record (cell_at cells c) { link = 2 * number_at cells c + v })
      lt refl d i

  begin_there : (d : ℕ) → d ≢ c → begin_at (begin_as cells c v) d ≡ begin_at cells d
  begin_there d ne =
      ap (λ (x : Cell). x.link % 2)
      (get_or-set_other cells c d (record (cell_at cells c) { link = 2 * number_at cells c + v }) blank ne)

  length_begin : length (begin_as cells c v) ≡ length cells
  length_begin = length-set cells c (record (cell_at cells c) { link = 2 * number_at cells c + v })

  module _ (few : v ≤ 1) where
    number_begin : number_at (begin_as cells c v) ≡ number_at cells
    number_begin =
        λ i d. field_set (λ (x : Cell). x.link / 2) cells c
        (record (cell_at cells c) { link = 2 * number_at cells c + v }) lt (omega (arith, few)) d i

    begin_here : begin_at (begin_as cells c v) c ≡ v
    begin_here =
        ap (λ (x : Cell). x.link % 2)
        (get_or-set_same cells c (record (cell_at cells c) { link = 2 * number_at cells c + v }) blank lt)
        ∙ omega (arith, few)

flags : (cells : List Cell) (d : ℕ) → begin_at cells d ≤ 1
flags cells d = omega arith

-- cells stay full where their octets are the same
full_as : (old new : List Cell) → octets_at new ≡ octets_at old → length new ≡ length old → AreFull old
    → AreFull new
full_as old new e count full = λ d lt.
    ap (λ (f : ℕ → List ℕ). length (f d)) e ∙ full d (omega (arith, lt, count))

module _ (cells : List Cell) (free spare : ℕ) (octets : List ℕ) (s : IsIntact cells free spare)
    (enough : cells_for (length octets) ≤ spare) where
  way : Walk s.shape.owner s.shape.rank (number_at cells) (length cells) 0
      (0 + (spare - cells_for (length octets))) (cells_for (length octets)) free
  way =
      walk_front s.shape.owner s.shape.rank (number_at cells) (length cells) 0 0
      (spare - cells_for (length octets)) (cells_for (length octets)) spare free (omega (arith, enough))
      s.shape.unused

  on_way : Walk s.shape.owner s.shape.rank (number_at cells) (length cells) 0
      (0 + (spare - cells_for (length octets))) (suc (cells_for (length octets) - 1)) free
  on_way =
      subst (λ n. Walk s.shape.owner s.shape.rank (number_at cells) (length cells) 0
      (0 + (spare - cells_for (length octets))) n free) (some_cells (length octets)) way

  pub put_inside : IsInside (next_at cells) (length cells) (cells_for (length octets)) free
  put_inside =
      walk_inside s.shape.owner s.shape.rank (number_at cells) (length cells) 0
      (0 + (spare - cells_for (length octets))) (cells_for (length octets)) free way

  pub free_there : free < length cells
  free_there = on_way.0

  not_begun : begin_at cells free ≡ 0
  not_begun =
      let out = unmarked (number_at cells) (begin_at cells) (length cells) free spare s.shape
      (omega (arith, enough)) in
      zero_or (begin_at cells free) (flags cells free) out
    where
      zero_or : (b : ℕ) → b ≤ 1 → (b ≡ 1 → ⊥) → b ≡ 0
      zero_or zero few out = refl
      zero_or (suc b) few out = absurd (out (omega (arith, few)))

  pub put_fresh : octets_of cells free ≡ None
  put_fresh =
      ap (λ m. octets_by (octets_at cells) (number_at cells) (length cells) free m) not_begun

  module _ (last count : ℕ) (is : last ≡ jump (next_at cells) (cells_for (length octets) - 1) free)
      (amount : count + 32 * (cells_for (length octets) - 1) ≡ length octets) where
    pub put_last_there : last < length cells
    put_last_there =
        let h =
        walk_last s.shape.owner s.shape.rank (number_at cells) (length cells) 0
        (0 + (spare - cells_for (length octets))) (cells_for (length octets) - 1) free on_way in
        omega (arith, h.0, is)

    abbrev filled : List Cell
    filled = written cells (cells_for (length octets)) free octets

    abbrev linked : List Cell
    linked = number_as filled last count

    abbrev after : List Cell
    after = begin_as linked free 1

    length_filled : length filled ≡ length cells
    length_filled = length_written cells (cells_for (length octets)) free octets

    there : last < length filled
    there = omega (arith, put_last_there, length_filled)

    there2 : free < length linked
    there2 = omega (arith, free_there, length_filled, length_number filled last count there)

    length_after : length after ≡ length cells
    length_after = length_begin linked free 1 there2 ∙ length_number filled last count there ∙ length_filled

    octets_after : octets_at after ≡ octets_at filled
    octets_after = octets_begin linked free 1 there2 ∙ octets_number filled last count there

    number_filled : number_at filled ≡ number_at cells
    number_filled = number_written cells (cells_for (length octets)) free octets put_inside

    number_after : number_at after ≡ number_at linked
    number_after = number_begin linked free 1 there2 (omega arith)

    number_last : number_at after (jump (next_at cells) (cells_for (length octets) - 1) free) ≡ count
    number_last =
        ap (number_at after) (sym is)
        ∙ ap (λ (f : ℕ → ℕ). f last) number_after
        ∙ number_here filled last count there

    numbers_kept : (d : ℕ) → (d ≡ jump (next_at cells) (cells_for (length octets) - 1) free → ⊥)
        → number_at after d ≡ number_at cells d
    numbers_kept d ne =
        ap (λ (f : ℕ → ℕ). f d) number_after
        ∙ number_there filled last count there d (λ e. ne (e ∙ is))
        ∙ ap (λ (f : ℕ → ℕ). f d) number_filled

    begins_kept : (d : ℕ) → (d ≡ free → ⊥) → begin_at after d ≡ begin_at cells d
    begins_kept d ne =
        begin_there linked free 1 there2 d ne
        ∙ ap (λ (f : ℕ → ℕ). f d) (begin_number filled last count there)
        ∙ ap (λ (f : ℕ → ℕ). f d) (begin_written cells (cells_for (length octets)) free octets put_inside)

    begun : begin_at after free ≡ 1
    begun = begin_here linked free 1 there2 (omega arith)

    one_more : suc (cells_for (length octets) - 1) ≤ spare
    one_more = omega (arith, enough, some_cells (length octets))

    last_amount : number_at after (jump (next_at cells) (cells_for (length octets) - 1) free)
        + 32 * (cells_for (length octets) - 1) ≡ length octets
    last_amount = omega (arith, number_last, amount)

    full_after : AreFull after
    full_after =
        full_as filled after octets_after (omega (arith, length_after, length_filled))
        (full_written cells (cells_for (length octets)) free octets put_inside s.full)

    keeps : (d : ℕ)
        → (s.shape.owner d ≡ 0 → spare - suc (cells_for (length octets) - 1) ≤ s.shape.rank d → ⊥)
        → octets_at after d ≡ octets_at cells d
    keeps d off =
        ap (λ (f : ℕ → List ℕ). f d) octets_after
        ∙ written_other s.shape.owner s.shape.rank cells 0 (0 + (spare - cells_for (length octets)))
        (cells_for (length octets)) free octets way d
        (λ x y z. off x (omega (arith, y, some_cells (length octets))))

    shaped : IsShaped (number_at after) (begin_at after) (length cells)
        (jump (next_at cells) (suc (cells_for (length octets) - 1)) free)
        (spare - suc (cells_for (length octets) - 1))
    shaped =
        put_shape (number_at cells) (begin_at cells) (length cells) free spare s.shape
        (cells_for (length octets) - 1) (length octets) (number_at after) (begin_at after) one_more
        (sym (some_cells (length octets))) last_amount numbers_kept begins_kept

    pub put_sound : (next : ℕ) → next ≡ next_at filled last → next + 33 < 2 ^ 31
        → IsIntact after next (spare - cells_for (length octets))
    put_sound next on fits =
        let leads : jump (next_at cells) (suc (cells_for (length octets) - 1)) free ≡ next =
        jump_suc (next_at cells) (cells_for (length octets) - 1) free
        ∙ ap (next_at cells) (sym is)
        ∙ ap (λ (f : ℕ → ℕ). f last - 33) (sym number_filled)
        ∙ sym on
        in
        let few = s.few in
        record {
          shape =
              subst (λ k. IsShaped (number_at after) (begin_at after) k next (spare - cells_for (length octets)))
              (sym length_after)
              (subst (λ k. IsShaped (number_at after) (begin_at after) (length cells) next (spare - k))
              (sym (some_cells (length octets)))
              (subst
              (λ k. IsShaped (number_at after) (begin_at after) (length cells) k
              (spare - suc (cells_for (length octets) - 1))) leads shaped));
          full = full_after;
          few = omega (arith, few, length_after);
          fits = fits;
        }

    is_read : gather (octets_at after) (number_at after) (length cells) free (number_at after free - 32) ≡ octets
    is_read =
        put_told (number_at cells) (begin_at cells) (length cells) free spare s.shape
        (cells_for (length octets) - 1) (length octets) (number_at after) (begin_at after) one_more
        (sym (some_cells (length octets))) last_amount numbers_kept begins_kept (octets_at after)
        (λ d lt. full_after d (omega (arith, lt, length_after)))
        ∙ ap (λ n. collect (octets_at after) (next_at cells) n (length octets) free) (sym (some_cells (length octets)))
        ∙ ap (λ (f : ℕ → List ℕ). collect f (next_at cells) (cells_for (length octets)) (length octets) free)
        octets_after
        ∙ written_read s.shape.owner s.shape.rank cells 0 (0 + (spare - cells_for (length octets)))
        (cells_for (length octets)) free octets way refl

    pub put_here : octets_of after free ≡ Some octets
    put_here =
        ap (λ b. octets_by (octets_at after) (number_at after) (length after) free b) begun
        ∙ ap (λ n. Some (gather (octets_at after) (number_at after) n free (number_at after free - 32))) length_after
        ∙ ap Some is_read

    pub put_there : (q : ℕ) → (q ≡ free → ⊥) → octets_of after q ≡ octets_of cells q
    put_there q ne =
        ap (λ n. octets_by (octets_at after) (number_at after) n q (begin_at after q)) length_after
        ∙ put_keeps (number_at cells) (begin_at cells) (length cells) free spare s.shape
        (cells_for (length octets) - 1) (length octets) (number_at after) (begin_at after) one_more
        (sym (some_cells (length octets))) last_amount numbers_kept begins_kept (octets_at cells) (octets_at after)
        keeps (flags cells) (length cells) q ne

module _ (cells : List Cell) (c free spare : ℕ) (s : IsIntact cells free spare) (marked : begin_at cells c ≡ 1) where
  pub live_chain : IsChain cells c
  live_chain = record {
    inside = live_ends (number_at cells) (begin_at cells) (length cells) free spare s.shape c marked;
    full = s.full;
    few = s.few;
  }

  more_few : suc (s.shape.live c marked).more ≤ length cells
  more_few =
      walk_few s.shape.owner s.shape.rank (number_at cells) (length cells) (suc c)
      (suc (s.shape.live c marked).more) c (s.shape.live c marked).walk

  steps_are : steps_in cells c ≡ (s.shape.live c marked).more
  steps_are =
      walk_steps s.shape.owner s.shape.rank (number_at cells) (length cells) (suc c) (length cells)
      (s.shape.live c marked).more c more_few (s.shape.live c marked).walk (s.shape.live c marked).last

  -- as many cells as its octets want
  pub live_cells : cells_for (length (octets_in cells c)) ≡ steps_in cells c + 1
  live_cells =
      let h = s.shape.live c marked in
      let e =
      walk_length s.shape.owner s.shape.rank (number_at cells) (length cells) (suc c) (octets_at cells) s.full
      (length cells) h.more c more_few h.walk h.last in
      ap cells_for e ∙ h.full ∙ omega (arith, steps_are)

  pub live_there : c < length cells
  live_there = (s.shape.live c marked).walk.0

  module _ (last : ℕ) (is : last ≡ jump (next_at cells) (steps_in cells c) c) where
    last_is : last ≡ jump (next_at cells) (s.shape.live c marked).more c
    last_is = is ∙ ap (λ n. jump (next_at cells) n c) steps_are

    pub last_there : last < length cells
    last_there =
        let h =
        walk_last s.shape.owner s.shape.rank (number_at cells) (length cells) (suc c) 0
        (s.shape.live c marked).more c (s.shape.live c marked).walk in
        omega (arith, h.0, last_is)

    abbrev linked2 : List Cell
    linked2 = number_as cells last (free + 33)

    abbrev after2 : List Cell
    after2 = begin_as linked2 c 0

    there3 : c < length linked2
    there3 = omega (arith, live_there, length_number cells last (free + 33) last_there)

    length_after2 : length after2 ≡ length cells
    length_after2 = length_begin linked2 c 0 there3 ∙ length_number cells last (free + 33) last_there

    octets_after2 : octets_at after2 ≡ octets_at cells
    octets_after2 = octets_begin linked2 c 0 there3 ∙ octets_number cells last (free + 33) last_there

    number_after2 : number_at after2 ≡ number_at linked2
    number_after2 = number_begin linked2 c 0 there3 (omega arith)

    number_last2 : number_at after2 (jump (next_at cells) (s.shape.live c marked).more c) ≡ free + 33
    number_last2 =
        ap (number_at after2) (sym last_is)
        ∙ ap (λ (f : ℕ → ℕ). f last) number_after2
        ∙ number_here cells last (free + 33) last_there

    numbers_kept2 : (d : ℕ) → (d ≡ jump (next_at cells) (s.shape.live c marked).more c → ⊥)
        → number_at after2 d ≡ number_at cells d
    numbers_kept2 d ne =
        ap (λ (f : ℕ → ℕ). f d) number_after2
        ∙ number_there cells last (free + 33) last_there d (λ e. ne (e ∙ last_is))

    begins_kept2 : (d : ℕ) → (d ≡ c → ⊥) → begin_at after2 d ≡ begin_at cells d
    begins_kept2 d ne =
        begin_there linked2 c 0 there3 d ne
        ∙ ap (λ (f : ℕ → ℕ). f d) (begin_number cells last (free + 33) last_there)

    unmarked2 : begin_at after2 c ≡ 0
    unmarked2 = begin_here linked2 c 0 there3 (omega arith)

    pub free_sound : (count : ℕ) → count ≡ steps_in cells c + 1 → IsIntact after2 c (spare + count)
    free_sound count many =
        let h = s.shape.live c marked in
        let shape =
        free_shape (number_at cells) (begin_at cells) (length cells) free spare s.shape c (number_at after2)
        (begin_at after2) marked number_last2 numbers_kept2 unmarked2 begins_kept2 in
        let all : suc h.more + spare ≡ spare + count = omega (arith, many, steps_are) in
        let few = s.few in
        record {
          shape =
              subst (λ k. IsShaped (number_at after2) (begin_at after2) k c (spare + count)) (sym length_after2)
              (subst (λ k. IsShaped (number_at after2) (begin_at after2) (length cells) c k) all shape);
          full = full_as cells after2 octets_after2 length_after2 s.full;
          few = omega (arith, few, length_after2);
          fits = omega (arith, few, live_there);
        }

    pub free_here : octets_of after2 c ≡ None
    free_here =
        ap (λ m. octets_by (octets_at after2) (number_at after2) (length after2) c m) unmarked2

    pub free_there2 : (q : ℕ) → (q ≡ c → ⊥) → octets_of after2 q ≡ octets_of cells q
    free_there2 q ne =
        ap (λ n. octets_by (octets_at after2) (number_at after2) n q (begin_at after2 q)) length_after2
        ∙ ap (λ (f : ℕ → List ℕ). octets_by f (number_at after2) (length cells) q (begin_at after2 q)) octets_after2
        ∙ free_keeps (number_at cells) (begin_at cells) (length cells) free spare s.shape c (number_at after2)
        (begin_at after2) marked number_last2 numbers_kept2 unmarked2 begins_kept2 (octets_at cells) (flags cells)
        (length cells) q ne

begin_more : (cells : List Cell) (cell : Cell) → cell.link % 2 ≡ 0 → (d : ℕ)
    → begin_at (cells ++ cell ∷ []) d ≡ begin_at cells d
begin_more [] cell e zero = e
begin_more [] cell e (suc d) = refl
begin_more (x ∷ cells) cell e zero = refl
begin_more (x ∷ cells) cell e (suc d) = begin_more cells cell e d

module _ (cells : List Cell) (free spare : ℕ) (s : IsIntact cells free spare) where
  same3 : (d : ℕ) → d < length cells → octets_at (cells ++ new_cell free ∷ []) d ≡ octets_at cells d
  same3 d lt = ap (λ (x : Cell). x.octets) (get_or-append cells (new_cell free ∷ []) blank d lt)

  links3 : (d : ℕ) → d < length cells → number_at (cells ++ new_cell free ∷ []) d ≡ number_at cells d
  links3 d lt = ap (λ (x : Cell). x.link / 2) (get_or-append cells (new_cell free ∷ []) blank d lt)

  linked3 : number_at (cells ++ new_cell free ∷ []) (length cells) ≡ free + 33
  linked3 =
      ap (λ (x : Cell). x.link / 2) (get_or-append_seam cells (new_cell free) [] blank) ∙ omega arith

  length3 : length (cells ++ new_cell free ∷ []) ≡ length cells + 1
  length3 = length-append cells (new_cell free ∷ [])

  full3 : AreFull (cells ++ new_cell free ∷ [])
  full3 = λ d lt. elim (at_or_not d (length cells)) [
    | inl e ↦
        ap (λ k. length (octets_at (cells ++ new_cell free ∷ []) k)) e
        ∙ ap (λ (x : Cell). length x.octets) (get_or-append_seam cells (new_cell free) [] blank)
    | inr ne ↦
        (let below : d < length cells = omega (arith, lt, ne, length3) in ap length (same3 d below) ∙ s.full d below)
  ]

  begins3 : (d : ℕ) → begin_at (cells ++ new_cell free ∷ []) d ≡ begin_at cells d
  begins3 = begin_more cells (new_cell free) (omega arith)

  pub more_sound : length cells + 1 < 2 ^ 27
      → IsIntact (cells ++ new_cell free ∷ []) (length cells) (spare + 1)
  more_sound few =
      let new = cells ++ new_cell free ∷ [] in
      let shape =
      more_shape (number_at cells) (begin_at cells) (length cells) free spare s.shape
      (number_at new) (begin_at new) linked3 links3 begins3 in
      let one : suc spare ≡ spare + 1 = omega arith in
      record {
        shape =
            subst (λ k. IsShaped (number_at new) (begin_at new) k (length cells) (spare + 1)) (sym length3)
            (subst (λ k. IsShaped (number_at new) (begin_at new) (length cells + 1) (length cells) k) one shape);
        full = full3;
        few = omega (arith, few, length3);
        fits = omega (arith, few);
      }

  pub more_same : (q : ℕ) → octets_of (cells ++ new_cell free ∷ []) q ≡ octets_of cells q
  more_same q =
      let new = cells ++ new_cell free ∷ [] in
      ap (λ n. octets_by (octets_at new) (number_at new) n q (begin_at new q)) length3
      ∙ more_keeps (number_at cells) (begin_at cells) (length cells) free spare s.shape (number_at new)
      (begin_at new) linked3 links3 begins3 (octets_at cells) (octets_at new) same3 (flags cells) q
