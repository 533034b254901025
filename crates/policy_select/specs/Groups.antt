-- The sets of a group as they stand in a zone, and what a view says of them.
use Rattle.std.specs.Prelude.{◌≡◌, ◌≤◌, ℕ, List, Bool, false, Option, None, Some, take, drop, map}
use Rattle.std.specs.Prelude.{length}
use Rattle.std.specs.List.{find}
use Rattle.std.specs.Ordering.{is_eq}
use Rattle.rdata_layout.specs.declared.types.RType.{RType}
use Rattle.zone_table.specs.RecordSetRecord.{RecordSet}
use Rattle.zone_table.specs.SetKeyRecord.{SetKey}
use Rattle.zone_table.specs.SetsOfRecordSet.{key_of}
use Rattle.zone_table.specs.Zones.{AreZones, Zone, placed_in}
use Rattle.zone_table.specs.SetRefRecord.{SetRef}
use Rattle.zone_table.specs.Keys.{key_cmp}
use Rattle.zone_table.specs.Slotted.{Slotted, sets_of}
use Rattle.zone_table.specs.Sets.{IsAmong, group}
use Rattle.zone_table.specs.Looking.{RefersTo}
use Rattle.zone_table.specs.GroupRecord.{Group}

-- the sets of the zone with a number
abbrev pub sets_in_zone : List Zone → ℕ → List RecordSet
sets_in_zone zones id = sets_of (placed_in zones id)

-- the sets of a group, each with its slot, and without
abbrev pub members_of : List Zone → Group → List Slotted
members_of zones g = take g.length (drop g.start (placed_in zones g.zone))

abbrev pub sets_in : List Zone → Group → List RecordSet
sets_in zones g = sets_of (members_of zones g)

-- which of them a view says to be healthy, by their references
abbrev pub flags_in : List Zone → (view : SetRef → Bool) → Group → List Bool
flags_in zones view g =
    map (λ (p : Slotted). view (record { zone = g.zone; slot = p.slot })) (members_of zones g)

-- A view says of each set what a test of keys says of its key.
abbrev pub Agrees : List Zone → (view : SetRef → Bool) → (healthy : (zone : ℕ) → SetKey → Bool)
    → Type 0
Agrees zones view healthy = (set : SetRef) (named : RecordSet)
    → RefersTo zones set named → view set ≡ healthy set.zone (key_of named)

-- what a view says of the set that was found
abbrev pub said_of : (view : SetRef → Bool) → (zone : ℕ) → Option Slotted → Bool
said_of view zone None = false
said_of view zone (Some p) = view (record { zone = zone; slot = p.slot })

-- the test of keys that a view gives: what it says of the set with the key
abbrev pub by_key : List Zone → (view : SetRef → Bool) → (zone : ℕ) → SetKey → Bool
by_key zones view zone key =
    said_of view zone
    (find (λ (p : Slotted). is_eq (key_cmp (key_of p.set) key)) (placed_in zones zone))

-- So there is a test with which it agrees.
abbrev pub ViewsAgree : Type 0
ViewsAgree = (zones : List Zone) (view : SetRef → Bool)
    → AreZones zones → Agrees zones view (by_key zones view)

-- A group has 100 sets at most (Route 53 quotas).
abbrev pub FewInGroups : List RecordSet → Type 0
FewInGroups sets = (name : List (List ℕ)) (rtype : RType) → length (group sets name rtype) ≤ 100

-- So it is where the group of each set has.
abbrev pub FewByEachSet : Type 0
FewByEachSet = (sets : List RecordSet)
    → ((set : RecordSet) → IsAmong sets set → length (group sets set.name set.rtype) ≤ 100)
    → FewInGroups sets
