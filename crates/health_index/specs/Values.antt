-- The value that an index has of each node, also while values are being worked out; and what working
-- out one node leaves.
use Rattle.std.specs.Prelude.{◌≡◌, ◌≢◌, ◌↔◌, ℕ, zero, suc, Bool, true, IsTrue, List, [], ◌∷◌, Contains}
use Rattle.std.specs.List.{filter}
use Rattle.check_model.specs.Checks.{Checks}
use Rattle.health_valves.specs.Valves.{value_of}
use Rattle.health_model.specs.Healthy.{group_value, sets_of as sets_at}
use Rattle.health_model.specs.Nodes.{CheckNode, GroupNode, IsNode, Meets, Node, SetNode, feeders}
use Rattle.health_model.specs.Statuses.{Report}
use Rattle.health_planning.specs.Groups.{by_key}
use Rattle.health_planning.specs.Zones.{Zone, placed_in}
use Rattle.rdata_layout.specs.declared.types.RType.{RType}
use Rattle.record_set.specs.Sets.{key_of}
use Rattle.record_set.specs.declared.sets.RecordSet.{RecordSet}
use Rattle.zone_model.specs.Slotted.{IsHere, Slotted, sets_of}
use Rattle.zone_model.specs.Zones.{is_of_group}
use Rattle.health_planning.specs.Wired.{group_seat, valve_with, watched_of}
use Rattle.health_planning.specs.declared.seats.Seat.{Seat}
use Rattle.health_index.specs.Index.{HasNumber, Index, IsLaidFor, IsNumberOf, healthy_in, value_at}

-- the sets of a group of a zone, each with its slot
abbrev pub members_in : List Zone → (zone : ℕ) → (name : List (List ℕ)) → RType → List Slotted
members_in zones zone name rtype =
    filter (λ (p : Slotted). is_of_group name rtype p.set) (placed_in zones zone)

-- the number of a group, given as one more, and 0 where it has none: the seat of its first set tells
abbrev pub seat_in : List Seat → (members : List Slotted) → ℕ
seat_in seats [] = 0
seat_in seats (p ∷ members) = group_seat seats p.slot

-- the value of the number that is given as one more; another one where there is none
abbrev pub value_or : (v : ℕ → Bool) → (seat : ℕ) → (other : Bool) → Bool
value_or v zero other = other
value_or v (suc number) other = v number

-- the value of the set of a zone: that of its number, and a set without a number is healthy
abbrev pub value_of_set : List Zone → Index → (zone : ℕ) → RecordSet → Bool
value_of_set zones index zone set = by_key zones (healthy_in index) zone (key_of set)

-- The value of a node is that of its number. A set without a number is healthy, and a group without
-- one is healthy where some set of it is.
abbrev pub node_value : List Zone → Index → Node → Bool
node_value zones index (CheckNode id) = value_of index.valves (valve_with index.ids index.numbers id)
node_value zones index (SetNode zone set) = value_of_set zones index zone set
node_value zones index (GroupNode zone name rtype) =
    value_or (value_of index.valves) (seat_in index.seats (members_in zones zone name rtype))
    (group_value (value_of_set zones index zone) (sets_of (placed_in zones zone)) name rtype)

-- So each node that has a number has its value, and the two kinds that may have none have theirs.
pub record AreValues (zones : List Zone) (checks : Checks) (index : Index) : Type 0 where
  pub numbered : (number : ℕ) (n : Node) → IsNumberOf zones index number n
      → node_value zones index n ≡ value_at index number
  pub sets : (zone : ℕ) (p : Slotted) → IsHere (placed_in zones zone) p
      → (HasNumber zones index (SetNode zone p.set) → ⊥)
      → node_value zones index (SetNode zone p.set) ≡ true
  pub groups : (zone : ℕ) (name : List (List ℕ)) (rtype : RType)
      → (HasNumber zones index (GroupNode zone name rtype) → ⊥)
      → node_value zones index (GroupNode zone name rtype)
      ≡ group_value (λ set. node_value zones index (SetNode zone set))
      (sets_at (watched_of zones checks) zone) name rtype

-- by the values that an index has, the node meets its local equation
abbrev pub MeetsIn : List Zone → Checks → List Report → Index → Node → Type 0
MeetsIn zones checks reports index n =
    Meets (watched_of zones checks) reports (node_value zones index) n

-- A node was worked out anew: it meets its local equation, and each other node that met its own does
-- still, unless this one feeds it. Nodes keep their numbers. The answer is whether its value changed.
pub record WorksOut (zones : List Zone) (checks : Checks) (reports : List Report) (n : Node)
    (before after : Index) (changed : Bool) : Type 0 where
  pub its : MeetsIn zones checks reports after n
  pub others : (m : Node) → IsNode (watched_of zones checks) m → m ≢ n
      → (Contains (feeders (watched_of zones checks) m) n → ⊥)
      → MeetsIn zones checks reports before m → MeetsIn zones checks reports after m
  pub numbers : (number : ℕ) (m : Node)
      → IsNumberOf zones before number m ↔ IsNumberOf zones after number m
  pub turned : IsTrue changed ↔ (node_value zones after n ≢ node_value zones before n)
  pub laid : IsLaidFor zones checks reports after
