-- How zones are kept: each with the slots of its sets in a store that all zones share.
use Rattle.std.specs.Prelude.{◌≡◌, ◌<◌, ℕ, List, [], map, Option, Some}
use Rattle.std.specs.List.{AllByRecursion}
use Rattle.zone_changes.specs.RecordSetRecord.{RecordSet}
use Rattle.zone_changes.specs.Stored.{Kept}
use Rattle.zone_changes.specs.declared.sums.Sums.{Sums}
use Rattle.zone_changes.specs.Sums.{sums_of}
use Rattle.zone_changes.specs.Zones.{IsAmong}
use Rattle.zone_changes.specs.Orders.{IsOrder, slotted_of, set_in}
use Rattle.zone_list.specs.Zones.{AreListed, CanStand, Zone}

-- A zone: its number, the name of its apex, the slots of its sets in zone order, how many more of
-- them it can take without memory, and what is counted of them.
pub record Listed : Type 0 where
  pub id : ℕ
  pub apex : List (List ℕ)
  pub order : List ℕ
  pub room : ℕ
  pub sums : Sums

-- a zone without its sets
abbrev pub named : Listed → Zone
named listed = record { id = listed.id; apex = listed.apex; placed = [] }

abbrev pub named_of : List Listed → List Zone
named_of list = map named list

-- a zone with its sets
abbrev pub zone_in : List (Option Kept) → Listed → Zone
zone_in slots listed = record {
  id = listed.id;
  apex = listed.apex;
  placed = slotted_of slots listed.id listed.order;
}

abbrev pub zones_in : List (Option Kept) → List Listed → List Zone
zones_in slots list = map (zone_in slots) list

-- The zone has a number, its sets are in its slots, in zone order, each can stand in it, and they
-- are counted.
pub record IsIntact (slots : List (Option Kept)) (listed : Listed) : Type 0 where
  pub numbered : 0 < listed.id
  pub order : IsOrder slots listed.id listed.order
  pub each : AllByRecursion (λ p. CanStand listed.apex p.set)
      (slotted_of slots listed.id listed.order)
  pub counted : listed.sums ≡ sums_of (slotted_of slots listed.id listed.order)

-- one of them has this number
abbrev pub HasId : List Listed → ℕ → Type 0
HasId list id = (listed : Listed) × IsAmong list listed × (listed.id ≡ id)

-- The zones stand by rising number, each with its sets, and each set in the store is of one of
-- them.
pub record AreIntact (slots : List (Option Kept)) (list : List Listed) : Type 0 where
  pub listed : AreListed (named_of list)
  pub each : AllByRecursion (IsIntact slots) list
  pub owned : (zone slot : ℕ) (set : RecordSet) → set_in slots zone slot ≡ Some set
      → HasId list zone
