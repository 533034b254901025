-- Rows: prefixes with their values, no prefix twice, at most 100,000 of them.
use Rattle.std.specs.Prelude.{◌≡◌, ℕ, ◌<◌, ◌≤◌, List, [], ◌∷◌, ◌++◌, length, slice_get, Some, Result, Ok, Err, Contains}
use Rattle.ip_table.specs.declared.table.InsertFault.{InsertFault}
use Rattle.ip_table.specs.declared.table.InsertFault.TheVariants.{Duplicate, Full, OutOfMemory}
use Rattle.ip_table.specs.Prefixes.{Prefix, IsPrefix}

-- A row has this prefix.
abbrev pub HasRow : {V : Type 0} → List (Prefix × V) → Prefix → Type 0
HasRow {V} rows prefix = (value : V) × Contains rows (prefix, value)

-- what the rows of a table are
pub record AreRows {V : Type 0} (rows : List (Prefix × V)) : Type 0 where
  pub prefixes : (row : Prefix × V) → Contains rows row → IsPrefix row.0.address row.0.length
  pub apart : (i j : ℕ) (p q : Prefix × V) → slice_get rows i ≡ Some p → slice_get rows j ≡ Some q
      → p.0 ≡ q.0 → i ≡ j
  pub few : length rows ≤ 100000

-- What an insert answers and leaves: the row at the end, or the value handed back and the rows as
-- they were.
abbrev pub Inserts : {V : Type 0} → (old : List (Prefix × V)) → Prefix → V
    → Result (Unit {0}) (InsertFault V) → (new : List (Prefix × V)) → Type 0
Inserts old prefix value (Ok done) new =
    (¬ HasRow old prefix) × (length old < 100000) × (new ≡ old ++ (prefix, value) ∷ [])
Inserts old prefix value (Err (Duplicate back)) new =
    HasRow old prefix × (back ≡ value) × (new ≡ old)
Inserts old prefix value (Err (Full back)) new =
    (¬ HasRow old prefix) × (length old ≡ 100000) × (back ≡ value) × (new ≡ old)
Inserts old prefix value (Err (OutOfMemory back)) new =
    (¬ HasRow old prefix) × (length old < 100000) × (back ≡ value) × (new ≡ old)
