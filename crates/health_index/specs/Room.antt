-- Room in which a configuration is laid out anew, without memory.
use Rattle.std.specs.Prelude.{◌≡◌, ◌≢◌, ◌≤◌, ◌<◌, ◌+◌, ◌*◌, ◌^◌, ◌⊎◌, ℕ, suc, List, Some, length, slice_get}
use Rattle.health_valves.specs.Valves.{size_of, value_of}
use Rattle.health_valves.specs.Laying.{HasRoomFor, links_of}
use Rattle.health_valves.specs.declared.valves.Valves.{Valves}
use Rattle.health_index.specs.Founding.{ComesFirstOwned}
use Rattle.health_index.specs.Index.{Index}
use Rattle.health_index.specs.Regrouping.{HasCome}
use Rattle.health_planning.specs.Building.{AreGiven, HoldsSet}
use Rattle.health_planning.specs.DeltaRecord.{Delta}
use Rattle.health_planning.specs.SetRefRecord.{SetRef}
use Rattle.health_planning.specs.Wired.{group_seat, seat_of, valves_of}
use Rattle.health_planning.specs.Zones.{Zone}
use Rattle.zone_model.specs.Slotted.{Slotted}

-- An index can be laid out anew over so many slots: 200 checks of at most 255 children, which are kept by
-- two numbers more each, a valve for each set and for each group, one link into a group and two into a set.
-- Twice as many sets can be listed as there are slots, since those that went stay listed.
pub record HasRoom (index : Index) (slots : ℕ) : Type 0 where
  pub few : slots ≤ 2 ^ 29
  pub ids : 200 ≤ index.space.ids
  pub numbers : 200 ≤ index.space.numbers
  pub seen : 200 ≤ index.space.seen
  pub ids_before : 200 ≤ index.space.ids_before
  pub seen_before : 200 ≤ index.space.seen_before
  pub kin : 51400 ≤ index.space.kin
  pub seats : slots ≤ index.space.seats
  pub refs : slots * 2 ≤ index.space.refs
  pub members : slots * 2 ≤ index.space.members
  pub triggers : slots * 2 + 200 ≤ index.space.triggers
  pub links : slots * 3 + 51200 ≤ index.space.links
  pub valves : HasRoomFor index.valves (slots * 2 + 200) (slots * 3 + 51200)

-- Fewer valves are there than over so many slots there can be, and fewer links by two at least.
pub record HasValveRoom (valves : Valves) (slots : ℕ) : Type 0 where
  pub valves_below : size_of valves < slots * 2 + 200
  pub links_below : links_of valves + 2 ≤ slots * 3 + 51200

-- One set more can have a valve of its own.
pub record HasRoomForAlias (index : Index) (slots : ℕ) : Type 0 where
  pub refs : length index.refs < index.space.refs
  pub valves : HasValveRoom index.valves slots

-- Fewer valves by one at least are there than over so many slots there can be, and fewer links by two.
pub record HasValveRoomForTwo (valves : Valves) (slots : ℕ) : Type 0 where
  pub valves_below : size_of valves + 1 < slots * 2 + 200
  pub links_below : links_of valves + 2 ≤ slots * 3 + 51200

-- One set more can have a valve of its own, and a group of so many sets that had none.
pub record HasRoomForFirst (index : Index) (sets slots : ℕ) : Type 0 where
  pub refs : length index.refs < index.space.refs
  pub members : length index.members + sets ≤ index.space.members
  pub valves : HasValveRoomForTwo index.valves slots

-- Fewer valves by one at least are there than over so many slots there can be, and fewer links by two more than so many.
pub record HasValveRoomForGroup (valves : Valves) (fed slots : ℕ) : Type 0 where
  pub valves_below : size_of valves + 1 < slots * 2 + 200
  pub links_below : links_of valves + (fed + 2) ≤ slots * 3 + 51200

-- One set more can have a valve of its own, and a group of so many sets that had none, which the valves of so many of
-- them feed, 128 at most.
pub record HasRoomForGroup (index : Index) (fed sets slots : ℕ) : Type 0 where
  pub refs : length index.refs < index.space.refs
  pub members : length index.members + sets ≤ index.space.members
  pub few : fed ≤ 128
  pub valves : HasValveRoomForGroup index.valves fed slots

-- Only room changes: checks, their valves, what their checkers saw, their children, seats, listed sets, noted
-- members and values stay, and so does how many valves and links there are.
pub record Keeps (before after : Index) : Type 0 where
  pub ids : after.ids ≡ before.ids
  pub numbers : after.numbers ≡ before.numbers
  pub seen : after.seen ≡ before.seen
  pub kin : after.kin ≡ before.kin
  pub seats : after.seats ≡ before.seats
  pub refs : after.refs ≡ before.refs
  pub members : after.members ≡ before.members
  pub values : (valve : ℕ) → value_of after.valves valve ≡ value_of before.valves valve
  pub size : size_of after.valves ≡ size_of before.valves
  pub links : links_of after.valves ≡ links_of before.valves

-- ---- how much there is

-- Sets stand in the slots of some references, no two of which are the same.
pub record AreApart (zones : List Zone) (refs : List SetRef) : Type 0 where
  pub here : (k : ℕ) (ref : SetRef) → slice_get refs k ≡ Some ref → HoldsSet zones ref.slot
  pub once : (k n : ℕ) (one other : SetRef) → slice_get refs k ≡ Some one
      → slice_get refs n ≡ Some other → one.slot ≡ other.slot → k ≡ n

-- What there is where all was laid out at once, and nothing is left over: the listed sets are those with valves of
-- their own, and the noted ones those whose groups have valves, each of them once. Each valve behind those of 200
-- checks is told by a seat. A listed set has three links at most, one into its group's valve and two into its own.
pub record IsLaidAnew (zones : List Zone) (index : Index) : Type 0 where
  pub listed : AreApart zones index.refs
  pub own : (k : ℕ) (ref : SetRef) → slice_get index.refs k ≡ Some ref
      → seat_of index.seats ref.slot ≢ 0
  pub noted : AreApart zones index.members
  pub grouped : (k : ℕ) (ref : SetRef) → slice_get index.members k ≡ Some ref
      → group_seat index.seats ref.slot ≢ 0
  pub given : AreGiven index.refs index.members index.seats
  pub told : (valve : ℕ) → 200 ≤ valve → valve < size_of index.valves → (slot : ℕ)
      × ((seat_of index.seats slot ≡ suc valve) ⊎ (group_seat index.seats slot ≡ suc valve))
  pub links : links_of index.valves ≤ length index.refs * 3 + 51200

-- As many sets are listed and noted as were, and as many valves and links are there.
pub record HasAsMuch (before after : Index) : Type 0 where
  pub refs : length after.refs ≡ length before.refs
  pub members : length after.members ≡ length before.members
  pub valves : size_of after.valves ≡ size_of before.valves
  pub links : links_of after.valves ≡ links_of before.valves

-- Little more is there than was: one listed set, two valves and two links at most, and so many noted sets.
pub record AddsFew (sets : ℕ) (before after : Index) : Type 0 where
  pub refs : length after.refs ≤ length before.refs + 1
  pub members : length after.members ≤ length before.members + sets
  pub valves : size_of after.valves ≤ size_of before.valves + 2
  pub links : links_of after.valves ≤ links_of before.valves + 2

-- The same, but for so many links more.
pub record AddsGroup (sets fed : ℕ) (before after : Index) : Type 0 where
  pub refs : length after.refs ≤ length before.refs + 1
  pub members : length after.members ≤ length before.members + sets
  pub valves : size_of after.valves ≤ size_of before.valves + 2
  pub links : links_of after.valves ≤ links_of before.valves + (fed + 2)

-- So it is where the first evaluated alias came that leads to a group, and so many links more are there as this has sets
-- with valves of their own.
pub record AddsForGroup (zones : List Zone) (slots : ℕ) (delta : Delta) (before after : Index) : Type 0 where
  pub ref : SetRef
  pub members : List Slotted
  pub feeders : List ℕ
  pub come : HasCome delta ref
  pub comes : ComesFirstOwned zones before.ids before.numbers before.seats before.valves ref members feeders
  pub adds : AddsGroup slots (length (valves_of before.seats members)) before after

-- Little more is there than was, or that.
abbrev pub AddsLittle : List Zone → (slots : ℕ) → Delta → (before after : Index) → Type 0
AddsLittle zones slots delta before after =
    AddsFew slots before after ⊎ AddsForGroup zones slots delta before after
