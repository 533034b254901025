-- How the rows of one family stand in a tree. All rows at a fork and below it begin with the same
-- bits, as many as the fork is deep, and have at least so many.
use Rattle.std.specs.Prelude.{◌≡◌, ◌≢◌, ℕ, ◌+◌, ◌-◌, ◌*◌, ◌/◌, ◌%◌, ◌^◌, ◌<◌, ◌≤◌, List, [], length, slice_index_or, slice_set, ◌∷◌, ◌++◌, Option, Some, None, zero, suc}
use Rattle.address_text.specs.declared.address.IpAddress.{IpAddress}
use Rattle.address_text.specs.declared.address.IpAddress.TheVariants.{V4}
use Rattle.ip_table.specs.declared.tree.Fork.{Fork}
use Rattle.ip_table.specs.declared.tree.Walked.{Walked}
use Rattle.ip_table.specs.Bits.{width_of, number_of, first_bits, SharesFirst}
use Rattle.ip_table.specs.Prefixes.{Prefix, IsPrefix, Covers}

-- the prefix of a row
abbrev pub prefix_at : List Prefix → ℕ → Prefix
prefix_at prefixes row = slice_index_or prefixes row (record { address = V4 []; length = 0 })

-- a fork for no row yet, of this depth, whose window begins behind so many bits
abbrev pub bare : (start depth : ℕ) → Fork
bare start depth = record {
  row = 0;
  window = 0;
  start = start;
  long = 0;
  depth = depth;
  zero = 0;
  one = 0;
}

abbrev pub fork_at : List Fork → ℕ → Fork
fork_at forks at = slice_index_or forks at (bare 0 0)

-- the prefix of the row that stands at a fork
abbrev pub here : List Prefix → List Fork → ℕ → Prefix
here prefixes forks at = prefix_at prefixes (fork_at forks at).row

-- what a fork tells of the one to which a bit leads
abbrev pub child_pair : Fork → ℕ → ℕ
child_pair fork zero = fork.zero
child_pair fork (suc bit) = fork.one

-- the fork to which a bit leads, 0 for none
abbrev pub child : Fork → ℕ → ℕ
child fork bit = child_pair fork bit / 256

-- how deep that is
abbrev pub child_depth : Fork → ℕ → ℕ
child_depth fork bit = 255 - child_pair fork bit % 256

-- a fork and how deep it is, in one number, whose last bits tell the place of the bit behind
abbrev pub pair_of : (at depth : ℕ) → ℕ
pair_of at depth = at * 256 + (255 - depth)

-- the bit behind the first d
abbrev pub bit_behind : ℕ → IpAddress → ℕ
bit_behind d address = first_bits (d + 1) address % 2

-- the 32 bits behind the first ones, of which there are at most 96
abbrev pub window : ℕ → IpAddress → ℕ
window start address = number_of address / 2 ^ (96 - start) % 2 ^ 32

-- The address has the bits that stand before the window of a fork.
abbrev pub SharesBits : List Prefix → List Fork → IpAddress → (at : ℕ) → Type 0
SharesBits prefixes forks address at =
    first_bits (fork_at forks at).start (here prefixes forks at).address
    ≡ first_bits (fork_at forks at).start address

-- So many steps lead from a fork to another, each by a bit.
abbrev pub Leads : List Fork → (steps above at : ℕ) → Type 0
Leads forks zero above at = above ≡ at
Leads forks (suc steps) above at =
    (bit : ℕ) × (bit < 2) × (0 < child (fork_at forks above) bit)
    × Leads forks steps (child (fork_at forks above) bit) at

-- What a fork leads to by a bit is deeper, as deep as the fork tells, begins with the fork's bits
-- and then that bit, and has its window behind bits of the fork.
pub record IsChild (prefixes : List Prefix) (forks : List Fork) (above bit at : ℕ) : Type 0 where
  pub within : at < length forks
  pub deeper : (fork_at forks above).depth < (fork_at forks at).depth
  pub child_depth : child_depth (fork_at forks above) bit ≡ (fork_at forks at).depth
  pub start : (fork_at forks at).start ≤ (fork_at forks above).depth
  pub bits : first_bits ((fork_at forks above).depth + 1) (here prefixes forks at).address
      ≡ 2 * first_bits (fork_at forks above).depth (here prefixes forks above).address + bit

pub record IsFork (prefixes : List Prefix) (forks : List Fork) (width at : ℕ) : Type 0 where
  pub row : (fork_at forks at).row < length prefixes
  pub family : width_of (here prefixes forks at).address ≡ width
  pub depth : (fork_at forks at).depth ≤ (here prefixes forks at).length
  pub long : (fork_at forks at).long ≡ (here prefixes forks at).length
  pub low : (fork_at forks at).start ≤ 96
  -- The window of an IPv4 address is the address.
  pub flat : width ≡ 32 → (fork_at forks at).start ≡ 0
  pub behind : (fork_at forks at).window
      ≡ window (fork_at forks at).start (here prefixes forks at).address
  pub children : (bit : ℕ) → bit < 2 → 0 < child (fork_at forks at) bit
      → IsChild prefixes forks at bit (child (fork_at forks at) bit)

-- A tree of rows of one family, none of them twice, from a root of depth 0.
pub record IsTree (prefixes : List Prefix) (forks : List Fork) (width : ℕ) : Type 0 where
  pub root : (fork_at forks 0).depth ≡ 0
  pub begin : (fork_at forks 0).start ≡ 0
  pub each : (at : ℕ) → at < length forks → IsFork prefixes forks width at
  pub apart : (i j : ℕ) → i < length forks → j < length forks
      → (fork_at forks i).row ≡ (fork_at forks j).row → i ≡ j

-- A row stands at a fork or below it.
pub record StandsBelow (forks : List Fork) (above row : ℕ) : Type 0 where
  pub steps : ℕ
  pub at : ℕ
  pub within : at < length forks
  pub leads : Leads forks steps above at
  pub is : (fork_at forks at).row ≡ row

-- Each row of the family but one stands in the tree.
abbrev pub AllStand : List Prefix → List Fork → (width but : ℕ) → Type 0
AllStand prefixes forks width but =
    (row : ℕ) → row < length prefixes → width_of (prefix_at prefixes row).address ≡ width
    → row ≢ but → StandsBelow forks 0 row

-- Each row is a prefix.
abbrev pub AllPrefixes : List Prefix → Type 0
AllPrefixes prefixes = (row : ℕ) → row < length prefixes
    → IsPrefix (prefix_at prefixes row).address (prefix_at prefixes row).length

-- a row of at least this length was found
abbrev pub HasLength : List Prefix → Option ℕ → ℕ → Type 0
HasLength prefixes None length = ⊥
HasLength prefixes (Some found) length = length ≤ (prefix_at prefixes found).length

-- What was found contains the address, and each number of bits below `past` is shared by a row that
-- doesn't.
pub record IsTrueOf (prefixes : List Prefix) (address : IpAddress) (walked : Walked) : Type 0 where
  pub found : (row : ℕ) → walked.found ≡ Some row
      → (row < length prefixes) × Covers (prefix_at prefixes row) address
      × (walked.long ≡ (prefix_at prefixes row).length)
  pub below : (n : ℕ) → n < walked.past
      → (row : ℕ) × (row < length prefixes) × (¬ Covers (prefix_at prefixes row) address)
      × SharesFirst n (prefix_at prefixes row).address address

-- A row is no longer than what was found, or doesn't contain the address and shares fewer bits than
-- `past`.
pub record IsDone (prefixes : List Prefix) (address : IpAddress) (walked : Walked)
    (row : ℕ) : Type 0 where
  pub covers : Covers (prefix_at prefixes row) address
      → HasLength prefixes walked.found (prefix_at prefixes row).length
  pub apart : ¬ Covers (prefix_at prefixes row) address
      → ¬ SharesFirst walked.past (prefix_at prefixes row).address address

-- What was seen sums up all rows.
pub record SumsUp (prefixes : List Prefix) (address : IpAddress) (walked : Walked) : Type 0 where
  pub sound : IsTrueOf prefixes address walked
  pub each : (row : ℕ) → row < length prefixes → IsDone prefixes address walked row

-- A walk goes on from a fork to one that is deeper.
pub record GoesOn (prefixes : List Prefix) (forks : List Fork) (address : IpAddress)
    (above at : ℕ) : Type 0 where
  pub within : at < length forks
  pub deeper : (fork_at forks above).depth < (fork_at forks at).depth
  pub meets : SharesBits prefixes forks address at

-- No two rows have one prefix.
abbrev pub AreApart : List Prefix → Type 0
AreApart prefixes = (i j : ℕ) → i < length prefixes → j < length prefixes
    → prefix_at prefixes i ≡ prefix_at prefixes j → i ≡ j

-- A row that begins with the bits of a fork is carried to it. All others of the family stand in the
-- tree.
pub record IsCarried (prefixes : List Prefix) (forks : List Fork) (width at row : ℕ) : Type 0 where
  pub tree : IsTree prefixes forks width
  pub within : row < length prefixes
  pub family : width_of (prefix_at prefixes row).address ≡ width
  pub fresh : (i : ℕ) → i < length forks → (fork_at forks i).row ≢ row
  pub inside : at < length forks
  pub steps : ℕ
  pub leads : Leads forks steps 0 at
  pub bits : first_bits (fork_at forks at).depth (here prefixes forks at).address
      ≡ first_bits (fork_at forks at).depth (prefix_at prefixes row).address
  pub long : (fork_at forks at).depth ≤ (prefix_at prefixes row).length
  pub others : AllStand prefixes forks width row

-- a fork that a row takes
abbrev pub taken_by : Fork → List Prefix → (row : ℕ) → Fork
taken_by fork prefixes row = record fork {
  row = row;
  window = window fork.start (prefix_at prefixes row).address;
  long = (prefix_at prefixes row).length;
}

-- a fork for a row, with no fork below it
abbrev pub leaf : List Prefix → (start depth row : ℕ) → Fork
leaf prefixes start depth row = taken_by (bare start depth) prefixes row

-- a fork with a bit that leads on
abbrev pub linked : Fork → (bit child_pair : ℕ) → Fork
linked fork zero child_pair = record fork { zero = child_pair }
linked fork (suc bit) child_pair = record fork { one = child_pair }

-- the tree with one more fork, below a fork
abbrev pub grown : List Fork → (above bit : ℕ) → Fork → List Fork
grown forks above bit fork = slice_set forks above
    (linked (fork_at forks above) bit (pair_of (length forks) fork.depth)) ++ fork ∷ []

-- Some row has this prefix.
abbrev pub HasPrefix : List Prefix → Prefix → Type 0
HasPrefix prefixes prefix = (row : ℕ) × (row < length prefixes) × (prefix_at prefixes row ≡ prefix)

-- The rows of a family stand in its tree, which has one fork more than before.
pub record IsGrown (prefixes : List Prefix) (forks : List Fork) (width before : ℕ) : Type 0 where
  pub tree : IsTree prefixes forks width
  pub all : AllStand prefixes forks width (length prefixes)
  pub long : length forks ≡ before + 1
