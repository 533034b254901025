-- Zone cuts as groups of NS sets.
use Rattle.std.specs.Prelude.{◌≡◌, ◌<◌, ℕ, List, [], Option, None, Some, slice_get}
use Rattle.policy_select.specs.RecordSetRecord.{RecordSet}
use Rattle.policy_select.specs.Zones.{Zone}
use Rattle.policy_select.specs.Hosted.{HostedZone}
use Rattle.policy_select.specs.Looking.{IsGroupNow}
use Rattle.policy_select.specs.GroupRecord.{Group}
use Rattle.policy_select.specs.Sections.{cut_above}
use Rattle.policy_select.specs.Groups.{sets_in}

-- These are the sets of the group, and there is one at least.
pub record HasSets (zones : List Zone) (id : ℕ) (named : List RecordSet) (g : Group)
    : Type 0 where
  pub group : IsGroupNow zones g
  pub in_zone : g.zone ≡ id
  pub some : 0 < g.length
  pub sets : sets_in zones g ≡ named

-- the group of these sets, or none where there are no sets
abbrev pub GroupOrNone : List Zone → (id : ℕ) → (sets : List RecordSet) → Option Group → Type 0
GroupOrNone zones id sets None = sets ≡ []
GroupOrNone zones id sets (Some g) = HasSets zones id sets g

-- The first set of this group is the cut above or at the name.
pub record IsCut (zones : List Zone) (zone : HostedZone) (name : List (List ℕ)) (g : Group)
    : Type 0 where
  pub group : IsGroupNow zones g
  pub in_zone : g.zone ≡ zone.id
  pub some : 0 < g.length
  pub cut : cut_above zone name ≡ slice_get (sets_in zones g) 0

-- it; or there is none
abbrev pub CutOrNone : List Zone → HostedZone → (name : List (List ℕ)) → Option Group → Type 0
CutOrNone zones zone name None = cut_above zone name ≡ None
CutOrNone zones zone name (Some g) = IsCut zones zone name g
