-- What collections hold, in whichever way it is listed.
use Rattle.std.specs.Prelude.{◌≡◌, ◌↔◌, List, Contains}
use Rattle.cidr_blocks.specs.declared.places.Collection.{Collection}
use Rattle.cidr_blocks.specs.Places.{IsCollection, rows_of}

-- The elements of two lists are the same, in whichever order and however often.
abbrev pub SameMembers : {X : Type 0} → (xs ys : List X) → Type 0
SameMembers {X} xs ys = (x : X) → Contains xs x ↔ Contains ys x

-- Two collections have one name, and hold the same blocks under the same locations.
pub record HoldSame (collection other : Collection) : Type 0 where
  pub name : collection.name ≡ other.name
  pub blocks : SameMembers (rows_of collection.locations) (rows_of other.locations)

-- Collections that hold the same are listed in one way.
abbrev pub OneListing : Type 0
OneListing = (collection other : Collection) → IsCollection collection → IsCollection other
    → HoldSame collection other → collection ≡ other
