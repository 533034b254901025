-- The page of a zone's sets that a list gives, by places.
use Rattle.std.specs.Prelude.{◌≡◌, ◌≤◌, ℕ, List, drop, length, slice_get, take}
use Rattle.record_set.specs.declared.sets.RecordSet.{RecordSet}
use Rattle.page_laws.specs.Paging.{Start, from_start, next_of, page}
use Rattle.zone_lines.specs.declared.lists.ListOfSets.{ListOfSets}
use Rattle.config_zones.specs.Zones.{Zone, placed_in}
use Rattle.zone_model.specs.Slotted.{sets_of}

-- where a list starts
abbrev pub start_of : ListOfSets → Start
start_of list = record { name = list.name; rtype = list.rtype; ident = list.ident }

-- the sets of a zone
abbrev pub sets_in : List Zone → ℕ → List RecordSet
sets_in zones id = sets_of (placed_in zones id)

-- the sets from a start on stand from place `first` on
pub record IsFirst (start : Start) (sets : List RecordSet) (first : ℕ) : Type 0 where
  pub within : first ≤ length sets
  pub rest : from_start start sets ≡ drop first sets

-- a page is the sets from place `first` on up to place `end`, from which the list would go on
pub record IsPage (start : Start) (items : ℕ) (sets : List RecordSet) (first end : ℕ) : Type 0 where
  pub within : end ≤ length sets
  pub sets_are : page start items sets ≡ drop first (take end sets)
  pub next : next_of start items sets ≡ slice_get sets end
