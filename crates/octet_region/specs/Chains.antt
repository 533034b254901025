-- Chains of cells, by the numbers of their links.
use Rattle.std.specs.Prelude.{◌≡◌, ℕ, zero, suc, ◌+◌, ◌-◌, ◌<◌, List, [], ◌++◌, drop, take, length}
use Rattle.octet_region.specs.declared.cells.Cell.{Cell}
use Rattle.octet_region.specs.Cells.{number_at, next_at, octets_at, write_at}

-- the cell behind each
abbrev pub behind_by : (number : ℕ → ℕ) → ℕ → ℕ
behind_by number c = number c - 33

-- the cell behind so many
abbrev pub jump : (next : ℕ → ℕ) → ℕ → ℕ → ℕ
jump next zero c = c
jump next (suc n) c = jump next n (next c)

-- The first n cells of a chain are there.
abbrev pub IsInside : (next : ℕ → ℕ) (size : ℕ) → ℕ → ℕ → Type 0
IsInside next size zero c = Unit {0}
IsInside next size (suc n) c = (c < size) × IsInside next size n (next c)

-- The chain from c on is there, and its last cell is among its first n.
abbrev pub Ends : (number : ℕ → ℕ) (size n c : ℕ) → Type 0
Ends number size zero c = ⊥
Ends number size (suc n) c = (c < size) × (32 < number c → Ends number size n (number c - 33))

-- the octets in the first n cells of the chain from c on, whose number is so much above 32: by this the last one is known
abbrev pub gather : (octets : ℕ → List ℕ) (number : ℕ → ℕ) → (n c above : ℕ) → List ℕ
gather octets number zero c above = []
gather octets number (suc n) c zero = take (number c) (octets c)
gather octets number (suc n) c (suc next) = octets c ++ gather octets number n next (number next - 32)

-- how many cells stand behind c among the first n of its chain
abbrev pub steps : (number : ℕ → ℕ) → (n c above : ℕ) → ℕ
steps number zero c above = 0
steps number (suc n) c zero = 0
steps number (suc n) c (suc next) = suc (steps number n next (number next - 32))

-- the chain from cell c on is there
abbrev pub HasCells : List Cell → (c : ℕ) → Type 0
HasCells cells c = Ends (number_at cells) (length cells) (length cells) c

-- the octets of the chain from cell c on
abbrev pub octets_in : List Cell → (c : ℕ) → List ℕ
octets_in cells c = gather (octets_at cells) (number_at cells) (length cells) c (number_at cells c - 32)

-- how many cells of its chain stand behind c
abbrev pub steps_in : List Cell → (c : ℕ) → ℕ
steps_in cells c = steps (number_at cells) (length cells) c (number_at cells c - 32)

-- cells with these octets in the n cells from c on
abbrev pub written : List Cell → (n c : ℕ) → List ℕ → List Cell
written cells zero c octets = cells
written cells (suc n) c octets =
    written (write_at cells c (take 32 octets)) n (next_at cells c) (drop 32 octets)

-- Each of the n cells from c on has this owner, and a rank of its own that falls by one, down to `least`; and each but
-- the last leads to the next.
abbrev pub Walk : (owner rank number : ℕ → ℕ) (size o least : ℕ) → (n c : ℕ) → Type 0
Walk owner rank number size o least zero c = Unit {0}
Walk owner rank number size o least (suc n) c =
    (c < size) × (owner c ≡ o) × (rank c ≡ least + n) × (0 < n → 32 < number c)
    × Walk owner rank number size o least n (number c - 33)
