-- Where sets stand, by their keys.
use Rattle.std.specs.Prelude.{◌≡◌, ◌≢◌, ◌≤◌, ◌<◌, ◌+◌, ℕ, List, take, drop, length, true, false}
use Rattle.std.specs.Prelude.{slice_get, Option, None, Some, Result, Ok, Err}
use Rattle.std.specs.List.{filter}
use Rattle.std.specs.declared.cmp.Ordering.TheVariants.{Less}
use Rattle.zone_model.specs.OrderOfDnsName.{zone_cmp}
use Rattle.zone_model.specs.Suffix.{EndsWith}
use Rattle.zone_model.specs.Types.{number_of}
use Rattle.zone_model.specs.RTypeRecord.{RType}
use Rattle.zone_model.specs.RecordSetRecord.{RecordSet}
use Rattle.zone_model.specs.SetKeyRecord.{SetKey}
use Rattle.zone_model.specs.Sets.{key_of}
use Rattle.zone_model.specs.Placing.{comes_before, comes_behind, IsSetOf, IsThere}
use Rattle.zone_model.specs.Zones.{group}
use Rattle.set_search.specs.declared.bounds.Bound.{Bound}
use Rattle.set_search.specs.declared.bounds.Bound.TheVariants as bound
use Rattle.set_search.specs.Bounds.{is_before}

-- The sets before place `low` stand before the bound, and those from `high` on don't.
pub record IsBracket (sets : List RecordSet) (bound : Bound) (low high : ℕ) : Type 0 where
  pub order : low ≤ high
  pub within : high ≤ length sets
  pub before : (k : ℕ) (x : RecordSet) → k < low → slice_get sets k ≡ Some x
      → is_before bound x ≡ true
  pub behind : (k : ℕ) (x : RecordSet) → high ≤ k → slice_get sets k ≡ Some x
      → is_before bound x ≡ false

-- So many sets stand before the bound: these are the first ones.
abbrev pub IsCount : List RecordSet → Bound → ℕ → Type 0
IsCount sets bound n = IsBracket sets bound n n

-- a set has the name and the type
abbrev pub IsOf : (name : List (List ℕ)) → RType → RecordSet → Type 0
IsOf name rtype set = (set.name ≡ name) × (set.rtype ≡ rtype)

-- A set has the name, and its type this number; or else it has another name.
abbrev pub TypeOrNone : (name : List (List ℕ)) → RecordSet → Option ℕ → Type 0
TypeOrNone name set None = set.name ≢ name
TypeOrNone name set (Some number) = (set.name ≡ name) × (number ≡ number_of set.rtype)

-- the set at a place has the name, and its type this number
abbrev pub IsTypedAt : List RecordSet → (name : List (List ℕ)) → (place number : ℕ) → Type 0
IsTypedAt sets name place number =
    (set : RecordSet) × (slice_get sets place ≡ Some set) × (set.name ≡ name)
    × (number ≡ number_of set.rtype)

-- the set at a place has the name and the type
abbrev pub IsSetOfGroupAt : List RecordSet → (name : List (List ℕ)) → RType → (place : ℕ) → Type 0
IsSetOfGroupAt sets name rtype place =
    (set : RecordSet) × (slice_get sets place ≡ Some set) × IsOf name rtype set

-- the sets at two places have different names
abbrev pub DifferInName : List RecordSet → (place other : ℕ) → Type 0
DifferInName sets place other =
    (set another : RecordSet) → slice_get sets place ≡ Some set → slice_get sets other ≡ Some another
    → set.name ≢ another.name

-- The set at place `high`, where one stands there, has another name than the one at an earlier place.
pub record IsPastName (sets : List RecordSet) (place high : ℕ) : Type 0 where
  pub above : place < high
  pub within : high ≤ length sets
  pub apart : high < length sets → DifferInName sets place high

-- The set at place `last` has the name and the type, and the last one with both stands before `high`.
pub record EndsBetween (sets : List RecordSet) (name : List (List ℕ)) (rtype : RType)
    (last high : ℕ) : Type 0 where
  pub member : IsSetOfGroupAt sets name rtype last
  pub bracket : IsBracket sets (bound.PastGroup name rtype) (last + 1) high

-- The sets of a name and type stand side by side, from place `start` on.
pub record IsGroupAt (sets : List RecordSet) (name : List (List ℕ)) (rtype : RType)
    (start n : ℕ) : Type 0 where
  pub first : IsCount sets (bound.From (record { name = name; rtype = rtype; ident = None })) start
  pub within : start + n ≤ length sets
  pub members : take n (drop start sets) ≡ group sets name rtype

-- the set at a place has the name, or one below it
abbrev pub IsBelowAt : List RecordSet → (name : List (List ℕ)) → (place : ℕ) → Type 0
IsBelowAt sets name place =
    (set : RecordSet) × (slice_get sets place ≡ Some set) × EndsWith set.name name

-- The names of the first n sets come before this name, and those of the others don't.
pub record IsFirstNamed (sets : List RecordSet) (name : List (List ℕ)) (n : ℕ) : Type 0 where
  pub within : n ≤ length sets
  pub before : (k : ℕ) (x : RecordSet) → k < n → slice_get sets k ≡ Some x
      → zone_cmp x.name name ≡ Less
  pub behind : (k : ℕ) (x : RecordSet) → n ≤ k → slice_get sets k ≡ Some x
      → zone_cmp x.name name ≢ Less

-- The set at place n is the one of this key.
pub record FindsAt (sets : List RecordSet) (key : SetKey) (n : ℕ) : Type 0 where
  pub kept : RecordSet
  pub there : slice_get sets n ≡ Some kept
  pub same_key : key_of kept ≡ key
  pub keeps : IsSetOf sets key kept
  pub only : (other : RecordSet) → IsSetOf sets key other → other ≡ kept
  pub before : (k : ℕ) (x : RecordSet) → k < n → slice_get sets k ≡ Some x
      → comes_before key x ≡ true
  pub behind : (k : ℕ) (x : RecordSet) → n < k → slice_get sets k ≡ Some x
      → comes_behind key x ≡ true
  pub front : filter (comes_before key) sets ≡ take n sets
  pub back : filter (comes_behind key) sets ≡ drop (n + 1) sets

-- No set has this key, and n sets come before it.
pub record FindsNone (sets : List RecordSet) (key : SetKey) (n : ℕ) : Type 0 where
  pub within : n ≤ length sets
  pub none : IsThere sets key → ⊥
  pub before : (k : ℕ) (x : RecordSet) → k < n → slice_get sets k ≡ Some x
      → comes_before key x ≡ true
  pub behind : (k : ℕ) (x : RecordSet) → n ≤ k → slice_get sets k ≡ Some x
      → comes_behind key x ≡ true
  pub front : filter (comes_before key) sets ≡ take n sets
  pub back : filter (comes_behind key) sets ≡ drop n sets

abbrev pub Finds : List RecordSet → SetKey → Result ℕ ℕ → Type 0
Finds sets key (Ok n) = FindsAt sets key n
Finds sets key (Err n) = FindsNone sets key n
