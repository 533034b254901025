-- What is kept beside the collections.
use Rattle.std.specs.Prelude.{ℕ, List, map}
use Rattle.cidr_commands.specs.Prefixes.{Prefix}
use Rattle.cidr_commands.specs.CollectionRecord.{Collection}
use Rattle.cidr_commands.specs.Places.{rows_of}

-- the blocks of each collection
abbrev pub tables_of : List (ℕ × Collection) → List (List (Prefix × List ℕ))
tables_of list = map (λ (held : ℕ × Collection). rows_of held.1.locations) list
