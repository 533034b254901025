-- Laws on walks, and on first places.
use Rattle.std.specs.Prelude.{◌≡◌, ◌↔◌, ℕ, ◌+◌, ◌<◌, List, Option}
use Rattle.set_search.specs.RecordSetRecord.{RecordSet}
use Rattle.set_search.specs.Reasons.{IsAlias}
use Rattle.set_search.specs.Walks.{StartsWalk, HasNoTarget, IsTooDeep}
use Rattle.set_search.specs.Zones.{IsAmong, target_group}
use Rattle.alias_tree.specs.Firsts.{IsFirstPlace}

-- A walk of one link starts at each alias of the zone, and at no other set.
abbrev pub WalksBegin : Type 0
WalksBegin =
    (sets : List RecordSet) (set : RecordSet)
    → StartsWalk sets set 1 ↔ (IsAmong sets set × IsAlias set.body)

-- A walk of a link more starts at each alias of the zone whose target group has a set at which a walk starts.
abbrev pub WalksGoOn : Type 0
WalksGoOn =
    (sets : List RecordSet) (set : RecordSet) (n : ℕ) → 0 < n
    → StartsWalk sets set (n + 1)
    ↔ (IsAmong sets set × IsAlias set.body
    × (next : RecordSet) × IsAmong (target_group sets set) next × StartsWalk sets next n)

-- What each of the two calls tells of a list is one answer.
pub record FirstPlacesAreOne : Type 0 where
  pub missing : (sets : List RecordSet) (place other : Option ℕ) → IsFirstPlace (HasNoTarget sets) sets place
      → IsFirstPlace (HasNoTarget sets) sets other → place ≡ other
  pub deep : (sets : List RecordSet) (place other : Option ℕ) → IsFirstPlace (IsTooDeep sets) sets place
      → IsFirstPlace (IsTooDeep sets) sets other → place ≡ other
