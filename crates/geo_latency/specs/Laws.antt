-- What the definitions of the tables come to.
use Rattle.std.specs.Prelude.{◌≡◌, ◌<◌, ◌↔◌, true, List, length}
use Rattle.geo_latency.specs.Tables.{is_free}
use Rattle.prefix_text.specs.PrefixesOfIpTable.{Prefix}
use Rattle.prefix_text.specs.Rows.{HasRow}

-- A prefix is free where no row has it and there are fewer than 100,000 rows.
abbrev pub FreePrefixes : Type 0 → Type 0
FreePrefixes V =
    (rows : List (Prefix × V)) (prefix : Prefix)
    → (is_free rows prefix ≡ true) ↔ ((¬ HasRow rows prefix) × (length rows < 100000))
