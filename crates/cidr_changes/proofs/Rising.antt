-- Blocks in their order stay in it, and keep what holds of each, through puts and removals.
use Rattle.std.proofs.Common.{◌≡◌, ℕ, Bool, true, false, cond, List, [], ◌∷◌, Ordering, Less, Equal, Greater, is_some, ap, ◌∙◌, refl}
use Rattle.std.specs.BTreeMap.{insert_entry, is_at}
use Rattle.std.specs.List.{AllByRecursion}
use Rattle.std.specs.Map.{remove_entry}
use Rattle.std.specs.Ordering.{match_ordering, ordering_reverse}
use Rattle.cidr_blocks.specs.Prefixes.{Prefix}
use Rattle.cidr_blocks.specs.Texts.{IsLocationName}
use Rattle.cidr_changes.specs.Changes.{BlocksRise, Rows, location_of, put, put_all, removed, removed_all, stands_at}
use Rattle.cidr_blocks.specs.Order.{block_cmp_total}
use Rattle.cidr_blocks.specs.Places.{IsBlock, block_cmp}

abbrev pub Row : Type 0
Row = Prefix × List ℕ

pub each : {X : Type 0} (P Q : X → Type 0) → ((x : X) → P x → Q x) → (xs : List X)
    → AllByRecursion P xs → AllByRecursion Q xs
each P Q f [] all = tt
each P Q f (x ∷ xs) all = (f x all.0, each P Q f xs all.1)

pub greater_turned : (p q : Prefix) → block_cmp p q ≡ Greater → block_cmp q p ≡ Less
greater_turned p q e = block_cmp_total.antisymm q p ∙ ap ordering_reverse e

module _ (block : Prefix) (name : List ℕ) where
  module _ (P : Row → Type 0) (new : P (block, name)) (same : (row : Row) → P row → P (row.0, name))
    where
      all_by : (o : Ordering) (row : Row) (rows : Rows) → P row → AllByRecursion P rows
          → AllByRecursion P (insert_entry block_cmp rows block name)
          → AllByRecursion P (match_ordering o ((block, name) ∷ row ∷ rows) ((row.0, name) ∷ rows)
          (row ∷ insert_entry block_cmp rows block name))
      all_by Less row rows p all more = (new, (p, all))
      all_by Equal row rows p all more = (same row p, all)
      all_by Greater row rows p all more = (p, more)

      pub insert_all : (rows : Rows) → AllByRecursion P rows
          → AllByRecursion P (insert_entry block_cmp rows block name)
      insert_all [] all = (new, tt)
      insert_all (row ∷ rows) all =
          all_by (block_cmp block row.0) row rows all.0 all.1 (insert_all rows all.1)

  rising_by : (o : Ordering) (row : Row) (rows : Rows) → block_cmp block row.0 ≡ o
      → BlocksRise (row ∷ rows) → BlocksRise (insert_entry block_cmp rows block name)
      → BlocksRise (match_ordering o ((block, name) ∷ row ∷ rows) ((row.0, name) ∷ rows)
      (row ∷ insert_entry block_cmp rows block name))
  rising_by Less row rows e rise more = (
    (
      e,
      each (λ (other : Row). block_cmp row.0 other.0 ≡ Less)
          (λ (other : Row). block_cmp block other.0 ≡ Less)
          (λ other h. block_cmp_total.trans block row.0 other.0 e h) rows rise.0,
    ),
    rise,
  )
  rising_by Equal row rows e rise more = rise
  rising_by Greater row rows e rise more = (
    insert_all (λ other. block_cmp row.0 other.0 ≡ Less) (greater_turned block row.0 e)
        (λ other h. h) rows rise.0,
    more,
  )

  pub rising_insert : (rows : Rows) → BlocksRise rows
      → BlocksRise (insert_entry block_cmp rows block name)
  rising_insert [] rise = (tt, tt)
  rising_insert (row ∷ rows) rise =
      rising_by (block_cmp block row.0) row rows refl rise (rising_insert rows rise.1)

module _ (test : Prefix → Bool) where
  module _ (P : Row → Type 0) where
    all_left : (b : Bool) (row : Row) (rows : Rows) → P row → AllByRecursion P rows
        → AllByRecursion P (remove_entry test rows)
        → AllByRecursion P (cond b rows (row ∷ remove_entry test rows))
    all_left true row rows p all less = all
    all_left false row rows p all less = (p, less)

    pub remove_all : (rows : Rows) → AllByRecursion P rows
        → AllByRecursion P (remove_entry test rows)
    remove_all [] all = tt
    remove_all (row ∷ rows) all =
        all_left (test row.0) row rows all.0 all.1 (remove_all rows all.1)

  rising_left : (b : Bool) (row : Row) (rows : Rows) → BlocksRise (row ∷ rows)
      → BlocksRise (remove_entry test rows) → BlocksRise (cond b rows (row ∷ remove_entry test rows))
  rising_left true row rows rise less = rise.1
  rising_left false row rows rise less =
      (remove_all (λ other. block_cmp row.0 other.0 ≡ Less) rows rise.0, less)

  pub rising_remove : (rows : Rows) → BlocksRise rows → BlocksRise (remove_entry test rows)
  rising_remove [] rise = tt
  rising_remove (row ∷ rows) rise =
      rising_left (test row.0) row rows rise (rising_remove rows rise.1)

-- a block of a block's length under a location's name
pub record IsGood (row : Row) : Type 0 where
  pub block : IsBlock row.0
  pub name : IsLocationName row.1

-- rows of a collection
pub record AreFine (rows : Rows) : Type 0 where
  pub good : AllByRecursion IsGood rows
  pub rising : BlocksRise rows

pub none_fine : AreFine []
none_fine = record { good = tt; rising = tt }

module _ (name : List ℕ) where
  module _ (named : IsLocationName name) where
    put_by : (b : Bool) (block : Prefix) (rows : Rows) → IsBlock block → AreFine rows
        → AreFine (cond b rows (insert_entry block_cmp rows block name))
    put_by true block rows is fine = fine
    put_by false block rows is fine = record {
      good = insert_all block name IsGood (record { block = is; name = named })
          (λ row good. record { block = good.block; name = named }) rows fine.good;
      rising = rising_insert block name rows fine.rising;
    }

    pub put_fine : (blocks : List Prefix) (rows : Rows)
        → AllByRecursion IsBlock blocks → AreFine rows
        → AreFine (put_all name blocks rows)
    put_fine [] rows are fine = fine
    put_fine (block ∷ blocks) rows are fine =
        put_fine blocks (put name block rows) are.1
        (put_by (is_some (location_of rows block)) block rows are.0 fine)

  removed_by : (b : Bool) (block : Prefix) (rows : Rows) → AreFine rows
      → AreFine (cond b (remove_entry (is_at (block_cmp block)) rows) rows)
  removed_by true block rows fine = record {
    good = remove_all (is_at (block_cmp block)) IsGood rows fine.good;
    rising = rising_remove (is_at (block_cmp block)) rows fine.rising;
  }
  removed_by false block rows fine = fine

  pub removed_fine : (blocks : List Prefix) (rows : Rows) → AreFine rows
      → AreFine (removed_all name blocks rows)
  removed_fine [] rows fine = fine
  removed_fine (block ∷ blocks) rows fine =
      removed_fine blocks (removed name block rows)
      (removed_by (stands_at name rows block) block rows fine)
