-- A file of a journal, as a list of bytes: a header, a snapshot, entries, and a closed gate.
use Rattle.std.specs.Prelude.{◌≡◌, ◌≢◌, ℕ, ◌<◌, ◌≤◌, ◌^◌, List, [], ◌∷◌, ◌++◌, length, take, drop, slice_index}
use Rattle.byteorder.specs.Endian.{big_bytes, big_number}

-- The most bytes of a file, up to its closed gate and with it (own).
abbrev pub most : ℕ
most = 268435456

-- "R53ZJ01" in ASCII
abbrev pub header_text : List ℕ
header_text = 0x52 ∷ 0x35 ∷ 0x33 ∷ 0x5a ∷ 0x4a ∷ 0x30 ∷ 0x31 ∷ []

-- a snapshot, and an entry behind its gate: the length in four bytes, and the bytes
abbrev pub body : List ℕ → List ℕ
body entry = big_bytes 4 (length entry) ++ entry

-- entries, each behind an open gate
abbrev pub opened : List (List ℕ) → List ℕ
opened [] = []
opened (entry ∷ entries) = 1 ∷ (body entry ++ opened entries)

-- a file from byte 1 to its snapshot's end
abbrev pub inner : ℕ → List ℕ → List ℕ
inner generation snapshot = header_text ++ (big_bytes 8 generation ++ body snapshot)

-- an open file up to the gate behind these entries
abbrev pub front : ℕ → List ℕ → List (List ℕ) → List ℕ
front generation snapshot entries = 1 ∷ (inner generation snapshot ++ opened entries)

-- The file is open: at least 20 bytes, an open gate, and the text.
pub record IsOpen (file : List ℕ) : Type 0 where
  pub long : 20 ≤ length file
  pub gate : slice_index file 0 ≡ 1
  pub named : take 7 (drop 1 file) ≡ header_text

-- the number in bytes 8 to 15
abbrev pub generation_of : List ℕ → ℕ
generation_of file = big_number 8 (drop 8 file)

-- each entry's length fits in four bytes
abbrev pub AreShort : List (List ℕ) → Type 0
AreShort [] = Unit {0}
AreShort (entry ∷ entries) = (length entry < 2 ^ 32) × AreShort entries

-- The file opens to this generation, snapshot and entries: up to the first closed gate it is whole. What stands behind
-- that gate doesn't count.
pub record OpensTo (file : List ℕ) (generation : ℕ) (snapshot : List ℕ) (entries : List (List ℕ)) : Type 0 where
  pub gate : ℕ
  pub rest : List ℕ
  pub is : file ≡ front generation snapshot entries ++ gate ∷ rest
  pub closed : gate ≢ 1
  pub generation_fits : generation < 2 ^ 64
  pub snapshot_fits : length snapshot < 2 ^ 32
  pub entries_fit : AreShort entries

-- A file opens to one thing.
abbrev pub OpensToOne : Type 0
OpensToOne =
    (file : List ℕ) (g h : ℕ) (s t : List ℕ) (xs ys : List (List ℕ))
    → OpensTo file g s xs → OpensTo file h t ys → (g ≡ h) × (s ≡ t) × (xs ≡ ys)
