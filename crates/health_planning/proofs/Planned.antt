-- In a blueprint that is done no path is long.
use Rattle.std.proofs.Common.{◌≡◌, ◌<◌, ℕ, List, length, refl, ◌∙◌, inl, inr, Some, None, Option}
use Rattle.std.specs.Prelude.{Contains, slice_get}
use Rattle.std.proofs.lemmas.Bool.{cases_lt}
use mathlib.Core.Path.{subst}
use Rattle.check_model.specs.Checks.{Checks}
use Rattle.check_model.specs.Checks.{IsSound as AreSoundChecks}
use Rattle.health_valves.specs.Valves.{Feeds}
use Rattle.health_valves.specs.Blueprint.{Drawn, feeders_in, net_in, own_in, condition_of}
use Rattle.health_valves.specs.Walk.{PathsEnd as ValvesEnd}
use Rattle.health_valves.specs.declared.blueprint.Trigger.{Trigger}
use Rattle.health_model.proofs.Members.{nothing_in}
use Rattle.health_model.specs.Laws.{PathsEnd}
use Rattle.health_model.specs.Sound.{IsSound}
use Rattle.policy_select.specs.Zones.{AreZones, Zone}
use Rattle.policy_select.specs.SetRefRecord.{SetRef}
use Rattle.policy_select.specs.Tables.{HaveSlotsApart}
use Rattle.health_planning.specs.Building.{IsBuilt}
use Rattle.health_planning.specs.Wired.{HaveValves, watched_of}
use Rattle.health_planning.specs.declared.seats.Seat.{Seat}
use Rattle.health_planning.proofs.Ending.{valves_end}
use Rattle.health_planning.proofs.Grouped.{none_feeds}
use Rattle.health_planning.proofs.Wiring.{nodes, set_valve, spare}

-- what feeds a valve of the net that is planned
pub fed_by_condition : (o : Option Trigger) (feeders : List ℕ) → (condition_of o feeders).feeders ≡ feeders
fed_by_condition None feeders = refl
fed_by_condition (Some trigger) feeders = refl

pub blueprint_ends : PathsEnd → (zones : List Zone) (checks : Checks) (numbers : List ℕ)
    (refs : List SetRef) (seats : List Seat) (blueprint : Drawn) → AreZones zones → HaveSlotsApart zones
    → AreSoundChecks checks → IsSound (watched_of zones checks)
    → HaveValves (length checks.list) numbers
    → IsBuilt zones checks.list numbers refs seats blueprint.triggers blueprint.links
    → ValvesEnd (Feeds (net_in blueprint)) 64
blueprint_ends law zones checks numbers refs seats blueprint are_zones apart are_checks sound valves built =
    valves_end zones checks numbers seats (net_in blueprint) (own_in blueprint) valves are_zones are_checks sound
    (λ place valve id check at numbered. fed_by_condition (slice_get blueprint.triggers valve) (feeders_in blueprint.links valve) ∙ built.children place valve id check at numbered)
    (λ zone p valve here seat. record { is = set_valve zones checks.list numbers refs seats blueprint are_zones apart valves built zone p valve here seat })
    (nodes zones checks.list numbers refs seats blueprint are_zones apart valves built)
    (spare zones checks.list numbers refs seats blueprint are_zones apart valves built)
    law there
  where
    there : (x y : ℕ) → Feeds (net_in blueprint) x y → y < length blueprint.triggers
    there x y fed = elim (cases_lt y (length blueprint.triggers)) [
      | inl within ↦ within
      | inr past ↦
          let none = fed_by_condition (slice_get blueprint.triggers y) (feeders_in blueprint.links y) ∙ none_feeds blueprint.links (length blueprint.triggers) y built.within past in
          absurd (nothing_in x (subst (λ (l : List ℕ). Contains l x) none fed))
    ]
