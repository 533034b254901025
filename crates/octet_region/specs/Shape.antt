-- How cells stand for what is held.
use Rattle.std.specs.Prelude.{◌≡◌, ℕ, zero, suc, ◌+◌, ◌-◌, ◌*◌, ◌%◌, ◌<◌, ◌≤◌, ◌^◌, List, [], ◌∷◌, length, Option, None, Some}
use Rattle.std.specs.FinMap as map
use Rattle.octet_region.specs.declared.cells.Cell.{Cell}
use Rattle.octet_region.specs.Cells.{cells_for, octets_at, number_at, begin_at}
use Rattle.octet_region.specs.Chains.{behind_by, jump, gather, Walk, HasCells}
use Rattle.octet_region.specs.Stored.{Held, Stored}

-- the octets of the chain from c on, where one of a handle begins there
abbrev pub octets_by : (octets : ℕ → List ℕ) (number : ℕ → ℕ) (n c : ℕ) → (begin : ℕ) → Option (List ℕ)
octets_by octets number n c zero = None
octets_by octets number n c (suc _) = Some (gather octets number n c (number c - 32))

-- the octets of a handle
abbrev pub octets_of : List Cell → ℕ → Option (List ℕ)
octets_of cells c = octets_by (octets_at cells) (number_at cells) (length cells) c (begin_at cells c)

abbrev pub with_octets : ℕ → Option (List ℕ) → Held → Held
with_octets c None held = held
with_octets c (Some octets) held = map.insert held c octets

-- what is held from cell c on, where `rest` are the cells from there
abbrev pub held_from : List Cell → ℕ → List Cell → Held
held_from cells c [] = map.empty
held_from cells c (cell ∷ rest) =
    with_octets c (octets_by (octets_at cells) (number_at cells) (length cells) c (cell.link % 2))
    (held_from cells (suc c) rest)

unfoldable pub held_in : List Cell → Held
held_in cells = held_from cells 0 cells

-- what a region with these cells holds, of which so many are free
abbrev pub stored_in : List Cell → (spare : ℕ) → Stored
stored_in cells spare = record { held = held_in cells; spare = spare; cells = length cells }

-- A chain of a handle: its cells are its own, and no more than its octets want.
pub record IsLive (owner rank number : ℕ → ℕ) (size c : ℕ) : Type 0 where
  pub more : ℕ
  pub walk : Walk owner rank number size (suc c) 0 (suc more) c
  pub last : number (jump (behind_by number) more c) ≤ 32
  pub full : cells_for (32 * more + number (jump (behind_by number) more c)) ≡ suc more

-- No cell is in two chains: the owner of each is 0 for the free ones, and c + 1 for those of the handle c.
pub record IsShaped (number begin : ℕ → ℕ) (size free spare : ℕ) : Type 0 where
  pub owner : ℕ → ℕ
  pub rank : ℕ → ℕ
  pub unused : Walk owner rank number size 0 0 spare free
  pub live : (c : ℕ) → begin c ≡ 1 → IsLive owner rank number size c

-- Each cell holds 32 octets.
abbrev pub AreFull : List Cell → Type 0
AreFull cells = (d : ℕ) → d < length cells → length (octets_at cells d) ≡ 32

-- Cells of a region, of which so many are free, the chain of these from one on.
pub record IsIntact (cells : List Cell) (free spare : ℕ) : Type 0 where
  pub shape : IsShaped (number_at cells) (begin_at cells) (length cells) free spare
  pub full : AreFull cells
  pub few : length cells < 2 ^ 27
  pub fits : free + 33 < 2 ^ 31

-- Each chain of a handle is there, in cells of 32 octets.
pub record AreWhole (cells : List Cell) : Type 0 where
  pub chains : (c : ℕ) → begin_at cells c ≡ 1 → HasCells cells c
  pub full : AreFull cells
  pub few : length cells < 2 ^ 27

-- a chain in cells of 32 octets
pub record IsChain (cells : List Cell) (c : ℕ) : Type 0 where
  pub inside : HasCells cells c
  pub full : AreFull cells
  pub few : length cells < 2 ^ 27
