-- Kinds of commands.
use Rattle.std.specs.Prelude.{⊤}
use Rattle.sound_configs.specs.CommandRecord.{Command}
use Rattle.sound_configs.specs.CommandRecord.TheVariants as command

-- a command on collections of address blocks
abbrev pub IsOnCollections : Command → Type 0
IsOnCollections (command.Cidr cidr) = ⊤
IsOnCollections other = ⊥
