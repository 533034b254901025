-- Changes begin with the blocks of the collection, in their order, and keep that.
use Rattle.std.proofs.Common.{◌≡◌, ◌≢◌, ◌⊎◌, ℕ, Bool, true, false, cond, List, [], ◌∷◌, ◌++◌, is_some, inl, inr, sym, refl}
use Rattle.std.specs.Prelude.{◌↔◌, Contains}
use Rattle.std.specs.BTreeMap.{insert_entry}
use Rattle.std.proofs.lemmas.List.Elements.{Contains-append_cases, Contains-append_left, Contains-append_right}
use Rattle.cidr_blocks.specs.Prefixes.{Prefix}
use Rattle.cidr_blocks.specs.declared.places.CidrLocation.{CidrLocation}
use Rattle.cidr_blocks.specs.Places.{StandOnce, block_cmp, rows_at, rows_of}
use Rattle.cidr_blocks.proofs.Elements.{at_each, none, which}
use Rattle.cidr_blocks.proofs.Listed.{at_name, in_name}
use Rattle.cidr_changes.specs.declared.changes.CidrChange.{CidrChange}
use Rattle.cidr_changes.specs.Changed.{with_locations}
use Rattle.cidr_changes.specs.Changes.{BlocksRise, Rows, location_of, put, put_all, removed, removed_all, stands_at}
use Rattle.cidr_changes.specs.Laws.{BeginsWithAll, StaysInOrder}
use Rattle.cidr_changes.proofs.Rising.{Row, rising_insert}
use Rattle.cidr_changes.proofs.Told.{IsPut, all_put, rising_by}

-- in order
module _ (name : List ℕ) where
  put_by : (b : Bool) (block : Prefix) (rows : Rows) → BlocksRise rows
      → BlocksRise (cond b rows (insert_entry block_cmp rows block name))
  put_by true block rows rise = rise
  put_by false block rows rise = rising_insert block name rows rise

  puts_rise : (blocks : List Prefix) (rows : Rows) → BlocksRise rows
      → BlocksRise (put_all name blocks rows)
  puts_rise [] rows rise = rise
  puts_rise (block ∷ blocks) rows rise =
      puts_rise blocks (put name block rows)
      (put_by (is_some (location_of rows block)) block rows rise)

  removals_rise : (blocks : List Prefix) (rows : Rows) → BlocksRise rows
      → BlocksRise (removed_all name blocks rows)
  removals_rise [] rows rise = rise
  removals_rise (block ∷ blocks) rows rise =
      removals_rise blocks (removed name block rows)
      (rising_by name block (stands_at name rows block) rows rise)

with_rise : (ls : List CidrLocation) (rows : Rows) → BlocksRise rows
    → BlocksRise (with_locations ls rows)
with_rise [] rows rise = rise
with_rise (l ∷ ls) rows rise =
    with_rise ls (put_all l.name l.blocks rows) (puts_rise l.name l.blocks rows rise)

change_by : (b : Bool) (change : CidrChange) (rows : Rows) → BlocksRise rows
    → BlocksRise (cond b (put_all change.location change.blocks rows)
    (removed_all change.location change.blocks rows))
change_by true change rows rise = puts_rise change.location change.blocks rows rise
change_by false change rows rise = removals_rise change.location change.blocks rows rise

pub in_order : StaysInOrder
in_order = record {
  begins = λ collection. with_rise collection.locations [] tt;
  keeps = λ change rows rise. change_by change.put change rows rise;
}

-- rows of which no block stands twice
once_rest : (xs ys : List Row) → StandOnce (xs ++ ys) → StandOnce ys
once_rest [] ys once = once
once_rest (x ∷ xs) ys once = once_rest xs ys once.1

once_apart : (xs ys : List Row) → StandOnce (xs ++ ys) → (x y : Row) → Contains xs x
    → Contains ys y → x.0 ≡ y.0 → ⊥
once_apart [] ys once x y in_xs in_ys same = none x in_xs
once_apart (z ∷ xs) ys once x y in_xs in_ys same =
    go (once_apart xs ys once.1 x y) (which z x xs in_xs)
  where
    go : (Contains xs x → Contains ys y → x.0 ≡ y.0 → ⊥) → (z ≡ x) ⊎ Contains xs x → ⊥
    go rest (inl e) =
        at_each (λ (other : Row). other.0 ≢ z.0) (xs ++ ys) y once.0
        (Contains-append_right xs ys y in_ys)
        (sym (let f : z.0 ≡ x.0 = cc in let g : z.0 ≡ y.0 = cc in g))
    go rest (inr c) = rest c in_ys same

abbrev Apart : (rows more : List Row) → Type 0
Apart rows more = (x y : Row) → Contains rows x → Contains more y → x.0 ≡ y.0 → ⊥

module _ (l : CidrLocation) (ls : List CidrLocation) (rows : Rows)
    (once : StandOnce (rows_of (l ∷ ls))) (apart : Apart rows (rows_of (l ∷ ls))) where
  abbrev here : List Row
  here = rows_at l.name l.blocks

  step : (row : Row) → Contains (put_all l.name l.blocks rows) row ↔ IsPut l.name l.blocks rows row
  step = all_put l.name l.blocks rows
      (λ b c other there. absurd (apart (b, other) (b, l.name) there
      (Contains-append_left here (rows_of ls) (b, l.name) (in_name l.name l.blocks b c)) refl))

  placed : (row : Row) → (row.1 ≡ l.name) × Contains l.blocks row.0 → Contains here row
  placed row both = go row both.0 (in_name l.name l.blocks row.0 both.1)
    where
      go : (row : Row) → row.1 ≡ l.name → Contains here (row.0, l.name) → Contains here row
      go row named c = rw named c

  apart_by : (x y : Row) → IsPut l.name l.blocks rows x → Contains (rows_of ls) y → x.0 ≡ y.0 → ⊥
  apart_by x y (inl c) d same =
      apart x y c (Contains-append_right here (rows_of ls) y d) same
  apart_by x y (inr both) d same =
      once_apart here (rows_of ls) once x y (placed x both) d same

  still_apart : Apart (put_all l.name l.blocks rows) (rows_of ls)
  still_apart x y c = apart_by x y ((step x).0 c)

  module _ (row : Row) where
    out_put : IsPut l.name l.blocks rows row → Contains rows row ⊎ Contains (rows_of (l ∷ ls)) row
    out_put (inl c) = inl c
    out_put (inr both) = inr (Contains-append_left here (rows_of ls) row (placed row both))

    out_of : Contains (put_all l.name l.blocks rows) row ⊎ Contains (rows_of ls) row
        → Contains rows row ⊎ Contains (rows_of (l ∷ ls)) row
    out_of (inl c) = out_put ((step row).0 c)
    out_of (inr c) = inr (Contains-append_right here (rows_of ls) row c)

    back_either : Contains here row ⊎ Contains (rows_of ls) row
        → Contains (put_all l.name l.blocks rows) row ⊎ Contains (rows_of ls) row
    back_either (inl c) = inl ((step row).1 (inr (at_name l.name l.blocks row c)))
    back_either (inr c) = inr c

    back : Contains rows row ⊎ Contains (rows_of (l ∷ ls)) row
        → Contains (put_all l.name l.blocks rows) row ⊎ Contains (rows_of ls) row
    back (inl c) = inl ((step row).1 (inl c))
    back (inr c) = back_either (Contains-append_cases here (rows_of ls) row c)

with_all : (ls : List CidrLocation) (rows : Rows) → StandOnce (rows_of ls)
    → Apart rows (rows_of ls) → (row : Row)
    → Contains (with_locations ls rows) row ↔ (Contains rows row ⊎ Contains (rows_of ls) row)
with_all [] rows once apart row = (λ c. inl c, only)
  where
    only : Contains rows row ⊎ Contains [] row → Contains rows row
    only (inl c) = c
    only (inr c) = absurd (none row c)
with_all (l ∷ ls) rows once apart row =
    let rest = with_all ls (put_all l.name l.blocks rows)
    (once_rest (rows_at l.name l.blocks) (rows_of ls) once) (still_apart l ls rows once apart) row in (
      λ c. out_of l ls rows once apart row (rest.0 c),
      λ s. rest.1 (back l ls rows once apart row s),
    )

pub begins : BeginsWithAll
begins collection row is =
    let all = with_all collection.locations [] is.once (λ x y c d same. none x c) row in
    (λ c. only (all.0 c), λ c. all.1 (inr c))
  where
    only : Contains [] row ⊎ Contains (rows_of collection.locations) row
        → Contains (rows_of collection.locations) row
    only (inl c) = absurd (none row c)
    only (inr c) = c
