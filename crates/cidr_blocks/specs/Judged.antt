-- What is told of rows that are looked at one by one, so that no block stands twice.
use Rattle.std.specs.Prelude.{◌≡◌, ℕ, Bool, true, false, List, [], ◌∷◌, ◌++◌}
use Rattle.ip_table.specs.Prefixes.{Prefix}
use Rattle.ip_table.specs.Rows.{HasRow}
use Rattle.cidr_blocks.specs.Places.{StandOnce}

-- whether a block is new, which then stands behind the rows
abbrev pub Adds : (rows : List (Prefix × List ℕ)) → Prefix → (name : List ℕ)
    → (after : List (Prefix × List ℕ)) → (added : Bool) → Type 0
Adds rows block name after true = (after ≡ rows ++ (block, name) ∷ []) × StandOnce after
Adds rows block name after false = HasRow rows block

-- whether more rows are all new, which then stand behind the rows
abbrev pub AddsAll : (rows more : List (Prefix × List ℕ)) → (after : List (Prefix × List ℕ))
    → (added : Bool) → Type 0
AddsAll rows more after true = (after ≡ rows ++ more) × StandOnce after
AddsAll rows more after false = StandOnce (rows ++ more) → ⊥
