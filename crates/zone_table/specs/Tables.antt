-- Tables of zones.
use Rattle.std.specs.Prelude.{◌≡◌, ◌<◌, ℕ, List}
use Rattle.cidr_routing.specs.Stored.{Stored}
use Rattle.zone_list.specs.Zones.{Zone, IsOne}
use Rattle.zone_list.specs.Slotted.{Slotted, IsHere}

-- A table of zones: the zones by rising number, how many slots there are, in use or free, how many
-- more sets each zone can take without memory (in their order), how many more zones can be opened,
-- how many more sets of all zones can be put, and how many more cells of their octets, without
-- memory; the collections of address blocks; and the number of edits that were made, modulo 2^64.
pub record Table : Type 0 where
  pub zones : List Zone
  pub slots : ℕ
  pub rooms : List ℕ
  pub spare : ℕ
  pub free : ℕ
  pub cells : ℕ
  pub collections : Stored
  pub edits : ℕ

-- No slot stands in two zones, so that a slot alone tells a set.
abbrev pub HaveSlotsApart : List Zone → Type 0
HaveSlotsApart zones = (zone other : Zone) (p q : Slotted) → IsOne zones zone → IsOne zones other
    → IsHere zone.placed p → IsHere other.placed q → p.slot ≡ q.slot → zone.id ≡ other.id

-- Each slot in which a set stands is below this number.
abbrev pub HaveSlotsBelow : List Zone → ℕ → Type 0
HaveSlotsBelow zones n = (zone : Zone) (p : Slotted) → IsOne zones zone → IsHere zone.placed p
    → p.slot < n
