-- What is counted of all zones.
use Rattle.std.specs.Prelude.{◌≡◌, ◌+◌, ◌%◌, ◌^◌, ℕ, List, length}
use Rattle.std.specs.List.{sum_by}
use Rattle.zone_list.specs.Stored.{Slots}
use Rattle.zone_list.specs.Sums.{octets_of}
use Rattle.zone_list.specs.Kept.{Listed}
use Rattle.zone_list.specs.Zones.{Zone}

-- how many sets the zones have
abbrev pub sets_in_all : List Zone → ℕ
sets_in_all zones = sum_by (λ (zone : Zone). length zone.placed) zones

-- how many octets their sets have
abbrev pub octets_in_all : List Zone → ℕ
octets_in_all zones = sum_by (λ (zone : Zone). octets_of zone.placed) zones

abbrev pub places_in : Listed → ℕ
places_in listed = length listed.order

abbrev pub counted_in : Listed → ℕ
counted_in listed = listed.sums.octets

-- Each slot that is not free is of a set of one of the zones, and the octets of all are counted,
-- modulo 2^64.
pub record AreCounted (store : Slots) (list : List Listed) (octets : ℕ) : Type 0 where
  pub sets : sum_by places_in list + store.free ≡ length store.slots
  pub all_octets : octets ≡ sum_by counted_in list % 2 ^ 64
