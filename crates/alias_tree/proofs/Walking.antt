-- Walks by their first link.
use Rattle.std.proofs.Common.{◌≡◌, ℕ, zero, suc, ◌+◌, ◌<◌, ◌≤◌, List, [], ◌∷◌, length, ap, refl, arith}
use Rattle.set_search.specs.Reasons.{IsAlias}
use Rattle.set_search.specs.RecordSetRecord.{RecordSet}
use Rattle.set_search.specs.BodyRecord.{Body}
use Rattle.set_search.specs.BodyRecord.TheVariants as body
use Rattle.set_search.specs.Walks.{IsWalk, StartsWalk}
use Rattle.set_search.specs.Zones.{IsAmong, target_group, target_group_of}
use Rattle.alias_tree.specs.Laws.{WalksBegin, WalksGoOn}

module _ (sets : List RecordSet) (set : RecordSet) where
  is_alias : (walk : List RecordSet) → IsWalk sets (set ∷ walk) → IsAlias set.body
  is_alias [] w = w.1
  is_alias (next ∷ walk) w = w.1

  is_there : (walk : List RecordSet) → IsWalk sets (set ∷ walk) → IsAmong sets set
  is_there [] w = w.0
  is_there (next ∷ walk) w = w.0

pub walks_begin : WalksBegin
walks_begin sets set = (
  λ w. (is_there sets set w.0 w.1, is_alias sets set w.0 w.1),
  λ h. ([], (h.0, h.1), refl),
)

pub walks_go_on : WalksGoOn
walks_go_on sets set n positive = (
  λ w. split w.0 w.1 w.2,
  λ h. (h.2 ∷ h.4.0, (h.0, h.1, h.3, h.4.1), let e = h.4.2 in omega (arith, e)),
)
  where
    split : (walk : List RecordSet) → IsWalk sets (set ∷ walk) → length walk + 1 ≡ n + 1
        → IsAmong sets set × IsAlias set.body × (next : RecordSet)
        × IsAmong (target_group sets set) next × StartsWalk sets next n
    split [] w e = absurd (omega (arith, e, positive))
    split (next ∷ walk) w e = (w.0, w.1, next, w.2, (walk, w.3, omega (arith, e)))

-- a set whose target group has a set is an alias
pub alias_of_some : (sets : List RecordSet) (set next : RecordSet) → IsAmong (target_group sets set) next
    → IsAlias set.body
alias_of_some sets set next there = by set.body there
  where
    by : (b : Body) → IsAmong (target_group_of sets set.rtype b) next → IsAlias b
    by (body.Alias target evaluate) there = tt
    by (body.Values ttl values) there = absurd there

-- where a walk starts, a shorter one does
shorter : (sets : List RecordSet) (n : ℕ) (set : RecordSet) (walk : List RecordSet)
    → IsWalk sets (set ∷ walk) → n ≤ length walk
    → (front : List RecordSet) × IsWalk sets (set ∷ front) × (length front ≡ n)
shorter sets zero set walk w le = ([], (is_there sets set walk w, is_alias sets set walk w), refl)
shorter sets (suc n) set [] w le = absurd (omega (arith, le))
shorter sets (suc n) set (next ∷ walk) w le =
    let rest = shorter sets n next walk w.3 (omega (arith, le)) in
    (next ∷ rest.0, (w.0, w.1, w.2, rest.1), ap suc rest.2)

pub shorter_walk : (sets : List RecordSet) (set : RecordSet) (n more : ℕ) → n < more
    → StartsWalk sets set more → StartsWalk sets set (n + 1)
shorter_walk sets set n more lt w =
    let size = w.2 in
    let front = shorter sets n set w.0 w.1 (omega (arith, lt, size)) in
    (front.0, front.1, let e = front.2 in omega (arith, e))
