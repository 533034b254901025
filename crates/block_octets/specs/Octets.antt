-- The octets of commands on collections of CIDR blocks (FORMATS, Octets of commands).
use Rattle.std.specs.Prelude.{ℕ, ◌<◌, ◌^◌, List, [], ◌∷◌, ◌++◌, length, Bool, true, false, ⊤}
use Rattle.std.specs.List.{AllByRecursion}
use Rattle.octets.specs.Numbers.{four_octets}
use Rattle.octet_reading.specs.Rules.{list_octets, text_octets}
use Rattle.cidr_commands.specs.IpAddressRecord.{IpAddress}
use Rattle.cidr_commands.specs.IpAddressRecord.TheVariants.{V4, V6}
use Rattle.cidr_commands.specs.Prefixes.{Prefix}
use Rattle.cidr_commands.specs.Places.{octets_of}
use Rattle.cidr_commands.specs.CidrChangeRecord.{CidrChange}
use Rattle.cidr_commands.specs.Commands.{HasNames}
use Rattle.cidr_commands.specs.declared.command.CidrCommand.{CidrCommand}
use Rattle.cidr_commands.specs.declared.command.CidrCommand.TheVariants.{Create, Change, Delete}

-- the number of an address's version
abbrev pub family_of : IpAddress → ℕ
family_of (V4 octets) = 4
family_of (V6 octets) = 6

-- a block: the version of its address, the address, and how many bits of it count
abbrev pub block_octets : Prefix → List ℕ
block_octets block = family_of block.address ∷ (octets_of block.address ++ block.length ∷ [])

-- a change puts blocks under a location, or takes them from it
abbrev pub put_number : Bool → ℕ
put_number true = 1
put_number false = 2

-- a change: what it does, the name of the location, and the blocks
abbrev pub change_octets : CidrChange → List ℕ
change_octets change =
    put_number change.put ∷ text_octets change.location ++ list_octets block_octets change.blocks

-- the kinds of commands on collections
abbrev pub kind_of : CidrCommand → ℕ
kind_of (Create name) = 7
kind_of (Change id changes) = 8
kind_of (Delete id) = 9

-- the fields of a command: a name, or a collection's number, and changes
abbrev pub field_octets : CidrCommand → List ℕ
field_octets (Create name) = text_octets name
field_octets (Change id changes) = four_octets id ++ list_octets change_octets changes
field_octets (Delete id) = four_octets id

-- ---- which commands have a spelling

-- no more blocks than can be counted
abbrev pub HasFewBlocks : CidrChange → Type 0
HasFewBlocks change = length change.blocks < 2 ^ 16

-- no longer lists than can be counted
abbrev pub IsListable : CidrCommand → Type 0
IsListable (Create name) = ⊤
IsListable (Change id changes) = (length changes < 2 ^ 16) × AllByRecursion HasFewBlocks changes
IsListable (Delete id) = ⊤

-- The names are those of collections and of locations, and the lists can be counted.
abbrev pub HasSpelling : CidrCommand → Type 0
HasSpelling command = HasNames command × IsListable command
