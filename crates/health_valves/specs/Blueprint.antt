-- Valves before they are laid: what opens each, and which feeds which.
use Rattle.std.specs.Prelude.{◌≡◌, ◌≤◌, ◌<◌, ◌+◌, ◌^◌, ◌==◌, ℕ, false, List, [], ◌∷◌, Option, None, Some, All, length, slice_get, if◌then◌else◌}
use Rattle.health_valves.specs.Valves.{Net, Condition}
use Rattle.health_valves.specs.declared.blueprint.Feeding.{Feeding}
use Rattle.health_valves.specs.declared.blueprint.Trigger.{Trigger}

-- the valves by their numbers, the feeds, and how many more of both want no memory
pub record Drawn : Type 0 where
  pub triggers : List Trigger
  pub links : List Feeding
  pub room : ℕ
  pub links_room : ℕ

-- nothing is planned
abbrev pub no_blueprint : Drawn
no_blueprint = record { triggers = []; links = []; room = 0; links_room = 0 }

-- in all as many valves and links have room as before
pub record KeepsRoom (before after : Drawn) : Type 0 where
  pub valves : after.room + length after.triggers ≡ before.room + length before.triggers
  pub links : after.links_room + length after.links ≡ before.links_room + length before.links

-- what feeds a valve
abbrev pub feeders_in : List Feeding → ℕ → List ℕ
feeders_in [] y = []
feeders_in (link ∷ links) y =
    if link.fed == y then link.feeder ∷ feeders_in links y else feeders_in links y

abbrev pub condition_of : Option Trigger → List ℕ → Condition
condition_of None feeders = record { need = 0; inverted = false; feeders = feeders }
condition_of (Some trigger) feeders =
    record { need = trigger.need; inverted = trigger.inverted; feeders = feeders }

abbrev pub own_of : Option Trigger → ℕ
own_of None = 0
own_of (Some trigger) = trigger.own

-- the net that is planned
abbrev pub net_in : Drawn → Net
net_in blueprint = record {
  size = length blueprint.triggers;
  condition = λ n. condition_of (slice_get blueprint.triggers n) (feeders_in blueprint.links n);
}

-- and what is counted from outside at each valve
abbrev pub own_in : Drawn → ℕ → ℕ
own_in blueprint n = own_of (slice_get blueprint.triggers n)

-- Each link is between valves of the blueprint, and no count is too large.
pub record IsDrawn (blueprint : Drawn) : Type 0 where
  pub within : All (λ (link : Feeding). link.feeder < length blueprint.triggers) blueprint.links
  pub to_within : All (λ (link : Feeding). link.fed < length blueprint.triggers) blueprint.links
  pub small : (n : ℕ) → own_in blueprint n ≤ 2 ^ 31
  pub few_links : length blueprint.links < 2 ^ 31
  pub few : length blueprint.triggers ≤ 2 ^ 32
