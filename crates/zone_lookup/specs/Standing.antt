-- What a name is in a zone (RFC 1034, 4.3.2, step 3; RFC 4592, 3.3.1).
use Rattle.std.specs.Prelude.{◌≡◌, ◌≤◌, ◌<◌, ◌-◌, ◌⊎◌, ℕ, List, [], length, Option, None, Some}
use Rattle.std.specs.Prelude.{slice_get}
use Rattle.dns_name.specs.Suffix.{EndsWith}
use Rattle.policy_select.specs.RecordSetRecord.{RecordSet}
use Rattle.rdata_layout.specs.declared.types.RType.{RType}
use Rattle.policy_select.specs.FoundOfSetSearch.{IsFirstNamed}
use Rattle.policy_select.specs.Zones.{Zone}
use Rattle.policy_select.specs.Existing.{Exists}
use Rattle.policy_select.specs.Hosted.{HostedZone}
use Rattle.policy_select.specs.ZonesOfZoneModel.{group}
use Rattle.policy_select.specs.Names.{source}
use Rattle.policy_select.specs.Sections.{asked_group, cut_above}
use Rattle.policy_select.specs.Groups.{sets_in_zone}
use Rattle.zone_lookup.specs.Cuts.{HasSets, IsCut}
use Rattle.zone_lookup.specs.declared.standing.Found.{Found}
use Rattle.zone_lookup.specs.declared.standing.Found.TheVariants as found
use Rattle.zone_lookup.specs.declared.standing.Standing.{Standing}
use Rattle.zone_lookup.specs.declared.standing.Standing.TheVariants as standing

-- The longest name at or above a name that exists: itself, or its closest encloser.
pub record IsNearest (sets : List RecordSet) (name nearest : List (List ℕ)) : Type 0 where
  pub above : EndsWith name nearest
  pub exists : Exists sets nearest
  pub longest : (other : List (List ℕ)) → EndsWith name other → Exists sets other
      → length other ≤ length nearest

-- Below or at a zone cut; else its sets are those of the source, where there is one.
abbrev pub HasStanding : List Zone → HostedZone → (name : List (List ℕ)) → Standing → Type 0
HasStanding zones zone name (standing.Below cut) = IsCut zones zone name cut
HasStanding zones zone name (standing.Taken from) =
    (cut_above zone name ≡ None) × (source zone.sets name ≡ Some from)
HasStanding zones zone name standing.Absent =
    (cut_above zone name ≡ None) × (source zone.sets name ≡ None)

-- ---- by the place of a name

-- These sets are found, or where there are none the place of the first set of the zone whose name
-- isn't before the name.
abbrev pub FindsSets : List Zone → (zone : ℕ) → (name : List (List ℕ)) → (sets : List RecordSet)
    → Found → Type 0
FindsSets zones zone name sets (found.Sets g) = HasSets zones zone sets g
FindsSets zones zone name sets (found.Place n) =
    (sets ≡ []) × IsFirstNamed (sets_in_zone zones zone) name n

-- the sets of a name and type, and the same by the number of the type
abbrev pub FindsTyped : List Zone → (zone : ℕ) → (name : List (List ℕ)) → RType → Found → Type 0
FindsTyped zones zone name rtype found =
    FindsSets zones zone name (group (sets_in_zone zones zone) name rtype) found

abbrev pub FindsAsked : List Zone → (zone : ℕ) → (name : List (List ℕ)) → (qtype : ℕ) → Found
    → Type 0
FindsAsked zones zone name qtype found =
    FindsSets zones zone name (asked_group (sets_in_zone zones zone) name qtype) found

-- There is a name, and it is the other one or below that.
abbrev pub IsUnder : Option (List (List ℕ)) → (other : List (List ℕ)) → Type 0
IsUnder None other = ⊥
IsUnder (Some name) other = EndsWith name other

-- the name of the set at a place, or none where there are no more sets
abbrev pub NamedAt : List RecordSet → (place : ℕ) → Option (List (List ℕ)) → Type 0
NamedAt sets place None = length sets ≤ place
NamedAt sets place (Some name) =
    (set : RecordSet) × (slice_get sets place ≡ Some set) × (set.name ≡ name)

-- the name of the set in front of a place
abbrev pub NamedBefore : List RecordSet → (place : ℕ) → Option (List (List ℕ)) → Type 0
NamedBefore sets place None = 0 < place → length sets ≤ place - 1
NamedBefore sets place (Some name) = (0 < place) × NamedAt sets (place - 1) (Some name)

-- Of the names at or above a name those exist at or below which one of these two is.
pub record AreBeside (sets : List RecordSet) (name : List (List ℕ))
    (before behind : Option (List (List ℕ))) : Type 0 where
  pub told : (at : List (List ℕ)) → EndsWith name at → Exists sets at
      → IsUnder before at ⊎ IsUnder behind at
  pub under_before : (at : List (List ℕ)) → IsUnder before at → Exists sets at
  pub under_behind : (at : List (List ℕ)) → IsUnder behind at → Exists sets at

-- One of the names at or above a name exists.
abbrev pub SomeExists : List RecordSet → (name : List (List ℕ)) → Type 0
SomeExists sets name = (at : List (List ℕ)) × EndsWith name at × Exists sets at
