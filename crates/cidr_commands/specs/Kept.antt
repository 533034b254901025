-- What commands keep, and what their answers hang on.
use Rattle.std.specs.Prelude.{◌≡◌, ℕ, List, Option, None, Some, Contains, Ok, ⊤}
use Rattle.cidr_changes.specs.CollectionRecord.{Collection}
use Rattle.cidr_changes.specs.Listing.{HoldSame, SameMembers}
use Rattle.cidr_changes.specs.Laws.{IsStarOrLocation}
use Rattle.cidr_commands.specs.declared.command.CidrCommand.{CidrCommand}
use Rattle.cidr_commands.specs.Commands.{HasNames, outcome}
use Rattle.cidr_commands.specs.Stored.{IsSound, Stored, collection_with}

-- What a command makes of collections is sound.
abbrev pub KeepsSound : Type 0
KeepsSound =
    (stored : Stored) (command : CidrCommand) (used : List (ℕ × List ℕ)) (after : Stored)
    → IsSound stored → HasNames command → outcome stored command used ≡ Ok after → IsSound after

abbrev pub IsThereIn : Option Collection → (name : List ℕ) → Type 0
IsThereIn None name = ⊥
IsThereIn (Some collection) name = IsStarOrLocation collection.locations name

-- What a set names is there: the collection of the number, and in it the location, where that isn't
-- `*`.
abbrev pub IsThere : List (ℕ × Collection) → (named : ℕ × List ℕ) → Type 0
IsThere list named = IsThereIn (collection_with named.0 list) named.1

-- What sets name and what is there is there after a command.
abbrev pub KeepsUsed : Type 0
KeepsUsed =
    (stored : Stored) (command : CidrCommand) (used : List (ℕ × List ℕ)) (after : Stored)
    → outcome stored command used ≡ Ok after → (named : ℕ × List ℕ) → Contains used named
    → IsThere stored.list named → IsThere after.list named

-- The same is held under a number, or nothing is.
abbrev pub HoldSameAt : Option Collection → Option Collection → Type 0
HoldSameAt None None = ⊤
HoldSameAt None (Some other) = ⊥
HoldSameAt (Some collection) None = ⊥
HoldSameAt (Some collection) (Some other) = HoldSame collection other

-- The same is held under each number, and the next number is the same.
pub record HoldAlike (stored other : Stored) : Type 0 where
  pub next : stored.next ≡ other.next
  pub at : (id : ℕ) → HoldSameAt (collection_with id stored.list) (collection_with id other.list)

-- It counts what collections hold and what sets name, and not in which way either is listed.
abbrev pub OnlyMembersCount : Type 0
OnlyMembersCount =
    (stored other : Stored) (command : CidrCommand) (used named : List (ℕ × List ℕ))
    → IsSound stored → IsSound other → HoldAlike stored other → SameMembers used named
    → outcome stored command used ≡ outcome other command named
