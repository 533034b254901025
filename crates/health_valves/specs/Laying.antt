-- A blueprint on its way into rows.
use Rattle.std.specs.Prelude.{◌≤◌, ◌+◌, ◌-◌, ℕ, length}
use Rattle.std.specs.Vec.{vec_capacity}
use Rattle.health_valves.specs.Valves.{size_of}
use Rattle.health_valves.specs.declared.valves.Valves.{Valves}
use Rattle.health_valves.specs.declared.valves.ValveFeeds.{ValveFeeds}
use Rattle.health_valves.specs.declared.blueprint.Trigger.{Trigger}

-- what stays of what opens a valve
abbrev pub row_of : Trigger → ValveFeeds
row_of trigger = record { need = trigger.need; inverted = trigger.inverted }

-- so many valves and links can be laid without memory
pub record HasRoomFor (valves : Valves) (size links : ℕ) : Type 0 where
  pub rows : size ≤ vec_capacity valves.rows
  pub feeds : links ≤ valves.feeds.most
  pub lists : size ≤ valves.feeds.valves_room + length valves.feeds.fed
  pub values : size ≤ vec_capacity valves.values
  pub counts : size ≤ vec_capacity valves.counts
  pub owns : size ≤ vec_capacity valves.owns
  pub cone : size ≤ vec_capacity valves.cone
  pub marks : size ≤ vec_capacity valves.marks

-- so can one valve more with so many links
pub record HasRoomForOne (valves : Valves) (links : ℕ) : Type 0 where
  pub valve : HasRoomFor valves (size_of valves + 1) 0
  pub links_room : links ≤ valves.feeds.room

-- how many links there are
abbrev pub links_of : Valves → ℕ
links_of valves = valves.feeds.most - valves.feeds.room
