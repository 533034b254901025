-- What the definitions of blocks come to.
use Rattle.std.specs.Prelude.{◌≡◌, ℕ, List}
use Rattle.std.specs.declared.cmp.Ordering.TheVariants.{Equal}
use Rattle.ip_table.specs.Prefixes.{Prefix}
use Rattle.routing.specs.Texts.{IsLocation}
use Rattle.cidr_blocks.specs.Idents.{IsNameOrStar}
use Rattle.cidr_blocks.specs.Places.{block_cmp}

-- Blocks that are equal in their order are one block.
abbrev pub OneOrder : Type 0
OneOrder = (p q : Prefix) → block_cmp p q ≡ Equal → p ≡ q

-- The location that a record set names is a name here, or `*`.
abbrev pub LocationsAreNames : Type 0
LocationsAreNames = (text : List ℕ) → IsLocation text → IsNameOrStar text
