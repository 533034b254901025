-- The zones from which queries are answered.
use Rattle.std.specs.Prelude.{◌≡◌, ◌≢◌, ℕ, List, [], map, Option, None, Some}
use Rattle.std.specs.Borrow.{Bor}
use Rattle.policy_select.specs.Zones.{Zone, IsOne, hosted}
use Rattle.policy_select.specs.Hosted.{HostedZone}
use Rattle.policy_select.specs.Slotted.{sets_of}
use Rattle.policy_select.specs.Looking.{IsApex}
use Rattle.policy_select.specs.ZonesOfAnswerModel.{zone_for}
use Rattle.policy_select.specs.Groups.{FewInGroups, sets_in_zone}

-- A zone can be answered from: it has a set, and no group of it has more than 100 (Route 53
-- quotas).
pub record CanAnswer (zone : Zone) : Type 0 where
  pub some : zone.placed ≢ []
  pub few : FewInGroups (sets_of zone.placed)

-- Each of the zones can.
pub record AreServed (zones : List Zone) : Type 0 where
  pub each : (zone : Zone) → IsOne zones zone → CanAnswer zone

-- the zones as definitions see them, without slots
abbrev pub hosted_of : List Zone → List HostedZone
hosted_of zones = map hosted zones

-- the zone of this number and name
abbrev pub zone_of : List Zone → (id : ℕ) → (apex : List (List ℕ)) → HostedZone
zone_of zones id apex = record { id = id; apex = apex; sets = sets_in_zone zones id }

-- The zone of the longest name that holds a name has this number and this apex.
pub record IsFound (zones : List Zone) (name : List (List ℕ)) (id : ℕ) (apex : List (List ℕ))
    : Type 0 where
  pub there : IsApex zones id apex
  pub zone : zone_for (hosted_of zones) name ≡ Some (zone_of zones id apex)

-- it; or no zone holds the name
abbrev pub FoundOrNone : List Zone → (name : List (List ℕ)) → (found : Option (ℕ × Bor (List (List ℕ))))
    → Type 0
FoundOrNone zones name None = zone_for (hosted_of zones) name ≡ None
FoundOrNone zones name (Some (id, apex)) = IsFound zones name id apex.now
