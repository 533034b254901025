-- What the grammar comes to.
use Rattle.std.specs.Prelude.{◌≡◌, ℕ, List, slice_set, Result, Ok}
use Rattle.ecs_option.specs.declared.subnet.ClientSubnet.{ClientSubnet}
use Rattle.ecs_option.specs.declared.subnet.Malformed.{Malformed}
use Rattle.ecs_option.specs.Grammar.{Reads}
use Rattle.ecs_option.specs.Writing.{IsSubnet, data_of}

-- Data is read in one way.
abbrev pub OneReading : Type 0
OneReading = (body : List ℕ) (a b : Result ClientSubnet Malformed) → Reads body a → Reads body b → a ≡ b

-- What is written reads back: with scope 0 as it stands, and another scope changes its own octet alone.
abbrev pub WrittenReadsBack : Type 0
WrittenReadsBack = (subnet : ClientSubnet) → IsSubnet subnet
    → Reads (data_of subnet 0) (Ok subnet) × ((scope : ℕ) → data_of subnet scope ≡ slice_set (data_of subnet 0) 3 scope)
