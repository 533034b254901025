-- Names that exist in a zone, and the closest ones (RFC 4592, 2.2.2 and 3.3.1).
use Rattle.std.specs.Prelude.{◌≢◌, ◌≤◌, ℕ, List, length}
use Rattle.record_set.specs.Suffix.{EndsWith}
use Rattle.record_set.specs.declared.sets.RecordSet.{RecordSet}
use Rattle.zone_model.specs.Zones.{IsAmong}

-- A name exists where a set has it, or has a name below it: an empty non-terminal exists too.
abbrev pub Exists : List RecordSet → (name : List (List ℕ)) → Type 0
Exists sets name = (set : RecordSet) × IsAmong sets set × EndsWith set.name name

-- the other name is an ancestor of this one
abbrev pub IsAncestor : (name other : List (List ℕ)) → Type 0
IsAncestor name other = EndsWith name other × (name ≢ other)

-- The closest name above this one that exists: its longest ancestor that does (closest encloser).
pub record IsClosest (sets : List RecordSet) (name closest : List (List ℕ)) : Type 0 where
  pub ancestor : IsAncestor name closest
  pub exists : Exists sets closest
  pub longest : (other : List (List ℕ)) → IsAncestor name other → Exists sets other → length other ≤ length closest
