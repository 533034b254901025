-- Blocks that rise, gathered by the names of their locations, make a collection's locations.
use Rattle.std.proofs.Common.{◌≡◌, ◌≢◌, ℕ, suc, ◌+◌, List, [], ◌∷◌, ◌++◌, length, Ordering, Less, Equal, Greater, ap, ◌∙◌, sym, refl, subst, arith}
use Rattle.std.proofs.lemmas.List.{length-append}
use Rattle.std.specs.Cmp.{tied_itself}
use Rattle.std.specs.Cmp.Lexicographic.{nat_list_cmp_total}
use Rattle.std.specs.List.{AllByRecursion}
use Rattle.std.specs.List.Sorted.{IsStrictlySortedBy}
use Rattle.std.specs.Ordering.{match_ordering, ordering_reverse}
use Rattle.cidr_blocks.specs.Prefixes.{Prefix}
use Rattle.cidr_blocks.specs.Texts.{IsLocationName}
use Rattle.cidr_blocks.specs.declared.places.CidrLocation.{CidrLocation}
use Rattle.cidr_changes.specs.Changes.{BlocksRise, Rows}
use Rattle.cidr_changes.specs.Gathered.{gathered, grown, of_block, with_row}
use Rattle.cidr_blocks.specs.Order.{block_cmp_total}
use Rattle.cidr_blocks.specs.Places.{IsBlock, IsCidrLocation, StandOnce, block_cmp, name_cmp, names_of, rows_at, rows_of}
use Rattle.cidr_changes.proofs.Rising.{IsGood, Row, each}

-- no block is below itself
unequal : (p q : Prefix) → block_cmp p q ≡ Less → p ≢ q
unequal p q less same =
    let e : block_cmp p p ≡ Less = subst (λ x. block_cmp p x ≡ Less) (sym same) less in
    let f : block_cmp p p ≡ Equal = tied_itself block_cmp_total p in
    let no : ⊥ = cc in no

module _ (block : Prefix) (name : List ℕ) where
  -- what holds of the blocks
  module _ (P : Prefix → Type 0) (new : P block) where
    pub all_grown : (at : List ℕ) (blocks : List Prefix) (rest : List Row)
        → AllByRecursion (λ (row : Row). P row.0) (rows_at at blocks ++ rest)
        → AllByRecursion (λ (row : Row). P row.0) (rows_at at (blocks ++ block ∷ []) ++ rest)
    all_grown at [] rest all = (new, all)
    all_grown at (b ∷ blocks) rest all = (all.0, all_grown at blocks rest all.1)

    pub all_behind : (at : List ℕ) (blocks : List Prefix) (rest more : List Row)
        → (AllByRecursion (λ (row : Row). P row.0) rest
        → AllByRecursion (λ (row : Row). P row.0) more)
        → AllByRecursion (λ (row : Row). P row.0) (rows_at at blocks ++ rest)
        → AllByRecursion (λ (row : Row). P row.0) (rows_at at blocks ++ more)
    all_behind at [] rest more f all = f all
    all_behind at (b ∷ blocks) rest more f all = (all.0, all_behind at blocks rest more f all.1)

    all_by : (o : Ordering) (l : CidrLocation) (ls : List CidrLocation)
        → (AllByRecursion (λ (row : Row). P row.0) (rows_of ls)
        → AllByRecursion (λ (row : Row). P row.0) (rows_of (with_row name block ls)))
        → AllByRecursion (λ (row : Row). P row.0) (rows_of (l ∷ ls))
        → AllByRecursion (λ (row : Row). P row.0) (rows_of (match_ordering o
        (of_block name block ∷ l ∷ ls) (grown l block ∷ ls) (l ∷ with_row name block ls)))
    all_by Less l ls rest all = (new, all)
    all_by Equal l ls rest all = all_grown l.name l.blocks (rows_of ls) all
    all_by Greater l ls rest all =
        all_behind l.name l.blocks (rows_of ls) (rows_of (with_row name block ls)) rest all

    pub all_with : (ls : List CidrLocation)
        → AllByRecursion (λ (row : Row). P row.0) (rows_of ls)
        → AllByRecursion (λ (row : Row). P row.0) (rows_of (with_row name block ls))
    all_with [] all = (new, tt)
    all_with (l ∷ ls) all = all_by (name_cmp name l.name) l ls (all_with ls) all

  -- each block stands once
  once_grown : (at : List ℕ) (blocks : List Prefix) (rest : List Row)
      → StandOnce (rows_at at blocks ++ rest)
      → AllByRecursion (λ (row : Row). row.0 ≢ block) (rows_at at blocks ++ rest)
      → StandOnce (rows_at at (blocks ++ block ∷ []) ++ rest)
  once_grown at [] rest once fresh = (fresh, once)
  once_grown at (b ∷ blocks) rest once fresh = (
    all_grown (λ p. p ≢ b) (λ e. fresh.0 (sym e)) at blocks rest once.0,
    once_grown at blocks rest once.1 fresh.1,
  )

  once_behind : (at : List ℕ) (blocks : List Prefix) (ls : List CidrLocation)
      → (StandOnce (rows_of ls) → AllByRecursion (λ (row : Row). row.0 ≢ block) (rows_of ls)
      → StandOnce (rows_of (with_row name block ls)))
      → StandOnce (rows_at at blocks ++ rows_of ls)
      → AllByRecursion (λ (row : Row). row.0 ≢ block) (rows_at at blocks ++ rows_of ls)
      → StandOnce (rows_at at blocks ++ rows_of (with_row name block ls))
  once_behind at [] ls rest once fresh = rest once fresh
  once_behind at (b ∷ blocks) ls rest once fresh = (
    all_behind (λ p. p ≢ b) (λ e. fresh.0 (sym e)) at blocks (rows_of ls)
        (rows_of (with_row name block ls))
        (all_with (λ p. p ≢ b) (λ e. fresh.0 (sym e)) ls) once.0,
    once_behind at blocks ls rest once.1 fresh.1,
  )

  once_by : (o : Ordering) (l : CidrLocation) (ls : List CidrLocation)
      → (StandOnce (rows_of ls) → AllByRecursion (λ (row : Row). row.0 ≢ block) (rows_of ls)
      → StandOnce (rows_of (with_row name block ls)))
      → StandOnce (rows_of (l ∷ ls))
      → AllByRecursion (λ (row : Row). row.0 ≢ block) (rows_of (l ∷ ls))
      → StandOnce (rows_of (match_ordering o
      (of_block name block ∷ l ∷ ls) (grown l block ∷ ls) (l ∷ with_row name block ls)))
  once_by Less l ls rest once fresh = (fresh, once)
  once_by Equal l ls rest once fresh = once_grown l.name l.blocks (rows_of ls) once fresh
  once_by Greater l ls rest once fresh = once_behind l.name l.blocks ls rest once fresh

  once_with : (ls : List CidrLocation) → StandOnce (rows_of ls)
      → AllByRecursion (λ (row : Row). row.0 ≢ block) (rows_of ls)
      → StandOnce (rows_of (with_row name block ls))
  once_with [] once fresh = (tt, tt)
  once_with (l ∷ ls) once fresh = once_by (name_cmp name l.name) l ls (once_with ls) once fresh

  -- one row more
  grown_count : (at : List ℕ) (blocks : List Prefix) (rest : List Row)
      → length (rows_at at (blocks ++ block ∷ []) ++ rest)
      ≡ suc (length (rows_at at blocks ++ rest))
  grown_count at [] rest = refl
  grown_count at (b ∷ blocks) rest = ap suc (grown_count at blocks rest)

  behind_count : (at : List ℕ) (blocks : List Prefix) (rest more : List Row)
      → length more ≡ suc (length rest)
      → length (rows_at at blocks ++ more) ≡ suc (length (rows_at at blocks ++ rest))
  behind_count at [] rest more e = e
  behind_count at (b ∷ blocks) rest more e = ap suc (behind_count at blocks rest more e)

  count_by : (o : Ordering) (l : CidrLocation) (ls : List CidrLocation)
      → length (rows_of (with_row name block ls)) ≡ suc (length (rows_of ls))
      → length (rows_of (match_ordering o
      (of_block name block ∷ l ∷ ls) (grown l block ∷ ls) (l ∷ with_row name block ls)))
      ≡ suc (length (rows_of (l ∷ ls)))
  count_by Less l ls e = refl
  count_by Equal l ls e = grown_count l.name l.blocks (rows_of ls)
  count_by Greater l ls e =
      behind_count l.name l.blocks (rows_of ls) (rows_of (with_row name block ls)) e

  count_with : (ls : List CidrLocation)
      → length (rows_of (with_row name block ls)) ≡ suc (length (rows_of ls))
  count_with [] = refl
  count_with (l ∷ ls) = count_by (name_cmp name l.name) l ls (count_with ls)

  -- the names rise
  module _ (P : List ℕ → Type 0) (new : P name) where
    names_by : (o : Ordering) (l : CidrLocation) (ls : List CidrLocation) → P l.name
        → AllByRecursion P (names_of ls) → AllByRecursion P (names_of (with_row name block ls))
        → AllByRecursion P (names_of (match_ordering o
        (of_block name block ∷ l ∷ ls) (grown l block ∷ ls) (l ∷ with_row name block ls)))
    names_by Less l ls p all more = (new, (p, all))
    names_by Equal l ls p all more = (p, all)
    names_by Greater l ls p all more = (p, more)

    all_names : (ls : List CidrLocation) → AllByRecursion P (names_of ls)
        → AllByRecursion P (names_of (with_row name block ls))
    all_names [] all = (new, tt)
    all_names (l ∷ ls) all = names_by (name_cmp name l.name) l ls all.0 all.1 (all_names ls all.1)

  rise_by : (o : Ordering) (l : CidrLocation) (ls : List CidrLocation)
      → name_cmp name l.name ≡ o
      → IsStrictlySortedBy name_cmp (names_of (l ∷ ls))
      → IsStrictlySortedBy name_cmp (names_of (with_row name block ls))
      → IsStrictlySortedBy name_cmp (names_of (match_ordering o
      (of_block name block ∷ l ∷ ls) (grown l block ∷ ls) (l ∷ with_row name block ls)))
  unfolding IsStrictlySortedBy
  rise_by Less l ls e rise more = (
    (
      e,
      each (λ other. name_cmp l.name other ≡ Less) (λ other. name_cmp name other ≡ Less)
          (λ other h. nat_list_cmp_total.trans name l.name other e h) (names_of ls) rise.0,
    ),
    rise,
  )
  rise_by Equal l ls e rise more = rise
  rise_by Greater l ls e rise more = (
    all_names (λ other. name_cmp l.name other ≡ Less)
        (nat_list_cmp_total.antisymm l.name name ∙ ap ordering_reverse e) ls rise.0,
    more,
  )

  rise_with : (ls : List CidrLocation) → IsStrictlySortedBy name_cmp (names_of ls)
      → IsStrictlySortedBy name_cmp (names_of (with_row name block ls))
  unfolding IsStrictlySortedBy
  rise_with [] rise = (tt, tt)
  rise_with (l ∷ ls) rise =
      rise_by (name_cmp name l.name) l ls refl rise (rise_with ls rise.1)

  -- each is a location
  one_more : (P : Prefix → Type 0) → P block → (blocks : List Prefix) → AllByRecursion P blocks
      → AllByRecursion P (blocks ++ block ∷ [])
  one_more P new [] all = (new, tt)
  one_more P new (b ∷ blocks) all = (all.0, one_more P new blocks all.1)

  blocks_rise : (blocks : List Prefix) → IsStrictlySortedBy block_cmp blocks
      → AllByRecursion (λ p. block_cmp p block ≡ Less) blocks
      → IsStrictlySortedBy block_cmp (blocks ++ block ∷ [])
  unfolding IsStrictlySortedBy
  blocks_rise [] rise low = (tt, tt)
  blocks_rise (b ∷ blocks) rise low =
      (one_more (λ p. block_cmp b p ≡ Less) low.0 blocks rise.0, blocks_rise blocks rise.1 low.1)

  of_front : (P : Prefix → Type 0) (at : List ℕ) (blocks : List Prefix) (rest : List Row)
      → AllByRecursion (λ (row : Row). P row.0) (rows_at at blocks ++ rest)
      → AllByRecursion P blocks × AllByRecursion (λ (row : Row). P row.0) rest
  of_front P at [] rest all = (tt, all)
  of_front P at (b ∷ blocks) rest all =
      let more = of_front P at blocks rest all.1 in ((all.0, more.0), more.1)

  module _ (is : IsBlock block) (named : IsLocationName name) where
    one_location : IsCidrLocation (of_block name block)
    unfolding IsStrictlySortedBy
    one_location = record {
      name = named;
      some = omega arith;
      are_blocks = (is, tt);
      rising = (tt, tt);
    }

    grown_location : (l : CidrLocation) → IsCidrLocation l
        → AllByRecursion (λ p. block_cmp p block ≡ Less) l.blocks → IsCidrLocation (grown l block)
    grown_location l good low = record {
      name = good.name;
      some = (let e = length-append l.blocks (block ∷ []) in omega (arith, e));
      are_blocks = one_more IsBlock is l.blocks good.are_blocks;
      rising = blocks_rise l.blocks good.rising low;
    }

    each_by : (o : Ordering) (l : CidrLocation) (ls : List CidrLocation) → IsCidrLocation l
        → AllByRecursion (λ p. block_cmp p block ≡ Less) l.blocks
        → AllByRecursion IsCidrLocation ls → AllByRecursion IsCidrLocation (with_row name block ls)
        → AllByRecursion IsCidrLocation (match_ordering o
        (of_block name block ∷ l ∷ ls) (grown l block ∷ ls) (l ∷ with_row name block ls))
    each_by Less l ls good low all more = (one_location, (good, all))
    each_by Equal l ls good low all more = (grown_location l good low, all)
    each_by Greater l ls good low all more = (good, more)

    each_with : (ls : List CidrLocation) → AllByRecursion IsCidrLocation ls
        → AllByRecursion (λ (row : Row). block_cmp row.0 block ≡ Less) (rows_of ls)
        → AllByRecursion IsCidrLocation (with_row name block ls)
    each_with [] all low = (one_location, tt)
    each_with (l ∷ ls) all low =
        let apart = of_front (λ p. block_cmp p block ≡ Less) l.name l.blocks (rows_of ls) low in
        each_by (name_cmp name l.name) l ls all.0 apart.0 all.1 (each_with ls all.1 apart.1)

-- what holds of the locations of some first rows, and of the rows that are left
pub record AreGathered (ls : List CidrLocation) (rows : Rows) : Type 0 where
  pub each : AllByRecursion IsCidrLocation ls
  pub rising : IsStrictlySortedBy name_cmp (names_of ls)
  pub once : StandOnce (rows_of ls)
  pub below : AllByRecursion (λ (row : Row). AllByRecursion (λ (other : Row).
      block_cmp other.0 row.0 ≡ Less) (rows_of ls)) rows

still_below : (block : Prefix) (name : List ℕ) (ls : List CidrLocation) (rows : Rows)
    → AllByRecursion (λ (row : Row). block_cmp block row.0 ≡ Less) rows
    → AllByRecursion (λ (row : Row). AllByRecursion (λ (other : Row).
    block_cmp other.0 row.0 ≡ Less) (rows_of ls)) rows
    → AllByRecursion (λ (row : Row). AllByRecursion (λ (other : Row).
    block_cmp other.0 row.0 ≡ Less) (rows_of (with_row name block ls))) rows
still_below block name ls [] low below = tt
still_below block name ls (row ∷ rows) low below = (
  all_with block name (λ p. block_cmp p row.0 ≡ Less) low.0 ls below.0,
  still_below block name ls rows low.1 below.1,
)

pub gathered_all : (rows : Rows) (ls : List CidrLocation) → AllByRecursion IsGood rows
    → BlocksRise rows → AreGathered ls rows → AreGathered (gathered rows ls) []
gathered_all [] ls good rise so_far = so_far
gathered_all (row ∷ rows) ls good rise so_far =
    gathered_all rows (with_row row.1 row.0 ls) good.1 rise.1 (record {
      each = each_with row.0 row.1 good.0.block good.0.name ls so_far.each so_far.below.0;
      rising = rise_with row.0 row.1 ls so_far.rising;
      once = once_with row.0 row.1 ls so_far.once
          (each (λ (other : Row). block_cmp other.0 row.0 ≡ Less) (λ (other : Row). other.0 ≢ row.0)
          (λ other h. unequal other.0 row.0 h) (rows_of ls) so_far.below.0);
      below = still_below row.0 row.1 ls rows rise.0 so_far.below.1;
    })

pub gathered_count : (rows : Rows) (ls : List CidrLocation)
    → length (rows_of (gathered rows ls)) ≡ length rows + length (rows_of ls)
gathered_count [] ls = omega arith
gathered_count (row ∷ rows) ls =
    gathered_count rows (with_row row.1 row.0 ls)
    ∙ (let e = count_with row.0 row.1 ls in omega (arith, e))

nothing : (rows : Rows) → AllByRecursion (λ (row : Row). AllByRecursion (λ (other : Row).
    block_cmp other.0 row.0 ≡ Less) []) rows
nothing [] = tt
nothing (row ∷ rows) = (tt, nothing rows)

pub none_gathered : (rows : Rows) → AreGathered [] rows
unfolding IsStrictlySortedBy
none_gathered rows = record {
  each = tt;
  rising = tt;
  once = tt;
  below = nothing rows;
}
