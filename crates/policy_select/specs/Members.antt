-- The sets of a group, told by their slots and by the place of their policies.
use Rattle.std.specs.Prelude.{◌≡◌, ◌++◌, ℕ, List, take}
use Rattle.zone_table.specs.Looking.{slots_in}
use Rattle.zone_table.specs.Octets.{routing_octets}
use Rattle.zone_table.specs.Policies.{PolicyIsAt}
use Rattle.zone_table.specs.RecordSetRecord.{RecordSet}
use Rattle.zone_table.specs.Sets.{IsAmong}
use Rattle.zone_table.specs.SetsOfSetReading.{IsRouting}
use Rattle.zone_table.specs.Zones.{Zone}
use Rattle.zone_table.specs.GroupRecord.{Group}
use Rattle.policy_select.specs.Groups.{sets_in}

-- The policy of each set stands at this place among its octets.
abbrev pub PoliciesAreAt : List RecordSet → (place : ℕ) → Type 0
PoliciesAreAt sets place = (set : RecordSet) → IsAmong sets set → PolicyIsAt set place

-- These are the slots of a group's sets, and the place at which the policy of each stands.
pub record AreMembers (zones : List Zone) (group : Group) (slots : List ℕ) (place : ℕ)
    : Type 0 where
  pub are : slots ≡ slots_in zones group
  pub placed : PoliciesAreAt (sets_in zones group) place

-- The octets begin with the policy of a set.
pub record BeginsWithPolicy (octets : List ℕ) (set : RecordSet) : Type 0 where
  pub is : IsRouting set.routing
  pub rest : List ℕ
  pub same : octets ≡ routing_octets set.routing ++ rest

-- The octets are the first of a list that begins with the policy of a set.
pub record IsFrontOfPolicy (octets : List ℕ) (set : RecordSet) : Type 0 where
  pub is : IsRouting set.routing
  pub rest : List ℕ
  pub size : ℕ
  pub same : octets ≡ take size (routing_octets set.routing ++ rest)
