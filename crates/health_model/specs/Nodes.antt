-- Nodes of health, what feeds each of them, and the equation of each.
use Rattle.std.specs.Prelude.{◌≡◌, ◌≢◌, ℕ, zero, suc, Bool, if◌then◌else◌, List, [], ◌∷◌, ◌++◌, map, Option, None, Some, Contains, ◌↔◌, ⊤}
use Rattle.zone_model.specs.RTypeRecord.{RType}
use Rattle.zone_model.specs.BodyRecord.{Body}
use Rattle.zone_model.specs.BodyRecord.TheVariants as body
use Rattle.zone_model.specs.RecordSetRecord.{RecordSet}
use Rattle.check_model.specs.Checks.{IsId, check_with}
use Rattle.check_model.specs.Commands.{children_there}
use Rattle.zone_model.specs.Zones.{IsAmong, group}
use Rattle.health_model.specs.Healthy.{Watched, group_value, healthy, set_value, sets_of}
use Rattle.health_model.specs.Statuses.{Report, passing, status, value_there}

-- a check, a set of a zone, or the group of a zone, a name and a type
pub data Node : Type 0 where
  CheckNode : (id : ℕ) → Node
  SetNode : (zone : ℕ) → RecordSet → Node
  GroupNode : (zone : ℕ) → (name : List (List ℕ)) → RType → Node

-- The nodes are the checks, the sets, and the groups that have sets.
abbrev pub IsNode : Watched → Node → Type 0
IsNode watched (CheckNode id) = IsId watched.checks id
IsNode watched (SetNode zone set) = IsAmong (sets_of watched zone) set
IsNode watched (GroupNode zone name rtype) =
    (set : RecordSet) × IsAmong (group (sets_of watched zone) name rtype) set

-- ---- feeds

abbrev pub its_check : Option ℕ → List Node
its_check None = []
its_check (Some id) = CheckNode id ∷ []

abbrev pub its_target : (zone : ℕ) → RType → Body → List Node
its_target zone rtype (body.Values ttl values) = []
its_target zone rtype (body.Alias target evaluate) =
    if evaluate then GroupNode zone target rtype ∷ [] else []

-- A child feeds its calculated check, a check each set that names it, a set its group, a group each
-- evaluated alias whose target group it is.
abbrev pub feeders : Watched → Node → List Node
feeders watched (CheckNode id) = map CheckNode (children_there (check_with watched.checks id))
feeders watched (SetNode zone set) = its_check set.check ++ its_target zone set.rtype set.body
feeders watched (GroupNode zone name rtype) =
    map (SetNode zone) (group (sets_of watched zone) name rtype)

-- ---- local equations

-- The value of a node, from the values of the nodes that feed it; that of an endpoint's check from
-- its fifty views.
abbrev pub local : Watched → List Report → (Node → Bool) → Node → Bool
local watched reports v (CheckNode id) =
    value_there (check_with watched.checks id) (passing reports id) (λ child. v (CheckNode child))
local watched reports v (SetNode zone set) =
    set_value (λ id. v (CheckNode id)) (λ name rtype. v (GroupNode zone name rtype)) set
local watched reports v (GroupNode zone name rtype) =
    group_value (λ set. v (SetNode zone set)) (sets_of watched zone) name rtype

-- The node meets its local equation.
abbrev pub Meets : Watched → List Report → (Node → Bool) → Node → Type 0
Meets watched reports v n = v n ≡ local watched reports v n

-- the value that the recursion gives a node
abbrev pub truth : Watched → List Report → Node → Bool
truth watched reports (CheckNode id) = status watched.checks reports id
truth watched reports (SetNode zone set) = healthy watched reports zone set
truth watched reports (GroupNode zone name rtype) =
    group_value (healthy watched reports zone) (sets_of watched zone) name rtype

-- ---- cones

-- a walk of so many feeds leads from one node to another, from node to node
abbrev pub Reaches : Watched → (feeds : ℕ) → (from to : Node) → Type 0
Reaches watched zero from to = from ≡ to
Reaches watched (suc feeds) from to =
    IsNode watched to
    × ((before : Node) × Contains (feeders watched to) before × Reaches watched feeds from before)

-- The cone of a node: all that walks of feeds from it reach, itself too.
abbrev pub InCone : Watched → (x n : Node) → Type 0
InCone watched x n = (feeds : ℕ) × Reaches watched feeds x n

-- Feeders first: none of a node and those behind it feeds it.
abbrev pub FeedersFirst : Watched → List Node → Type 0
FeedersFirst watched [] = ⊤
FeedersFirst watched (n ∷ rest) =
    ((m : Node) → Contains (n ∷ rest) m → Contains (feeders watched n) m → ⊥)
    × FeedersFirst watched rest

-- These are the nodes of the cone, feeders first.
pub record IsConeOf (watched : Watched) (x : Node) (cone : List Node) : Type 0 where
  pub members : (n : Node) → Contains cone n ↔ InCone watched x n
  pub in_order : FeedersFirst watched cone

-- ---- working values out

-- A node is made to meet its equation, and no other value changes.
pub record Evaluates (watched : Watched) (reports : List Report) (n : Node) (v w : Node → Bool)
    : Type 0 where
  pub its : w n ≡ local watched reports v n
  pub others : (m : Node) → m ≢ n → w m ≡ v m

-- One pass over some nodes, in their order.
abbrev pub WorksOut : Watched → List Report → List Node → (v w : Node → Bool) → Type 0
WorksOut watched reports [] v w = (m : Node) → w m ≡ v m
WorksOut watched reports (n ∷ rest) v w =
    (u : Node → Bool) × Evaluates watched reports n v u × WorksOut watched reports rest u w
