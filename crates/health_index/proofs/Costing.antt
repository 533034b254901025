-- What a report costs.
use Rattle.std.proofs.Common.{◌≡◌, ◌≤◌, ◌+◌, ℕ, Bool, true, false, List, [], ◌∷◌, length, arith, refl, ap, Some}
use Rattle.std.specs.Prelude.{Contains, if◌then◌else◌, slice_get}
use Rattle.check_model.specs.Checks.{Checks}
use Rattle.health_valves.specs.Pass.{CostsCone}
use Rattle.health_model.specs.Nodes.{CheckNode, InCone, Node}
use Rattle.health_model.specs.Statuses.{Report}
use Rattle.health_planning.specs.Zones.{Zone}
use Rattle.health_index.specs.Index.{Index, StandsFor}
use Rattle.health_planning.specs.Wired.{ids_of, place_of, watched_of}
use Rattle.health_planning.proofs.Ending.{cone_long, condition_seated}
use Rattle.health_index.proofs.Alone.{early_in}
use Rattle.health_index.proofs.Reporting.{at_place}

-- Where a status turns, as many valves are worked out as the cone of its check has nodes at most.
pub few_steps : (zones : List Zone) (checks : Checks) (reports : List Report) (index : Index)
    → (stands : StandsFor zones checks reports index) → (id place valve : ℕ)
    → slice_get index.ids place ≡ Some id → place_of index.ids id ≡ place
    → slice_get index.numbers place ≡ Some valve
    → (cone : List Node)
    → ((n : Node) → InCone (watched_of zones checks) (CheckNode id) n → Contains cone n)
    → (turned : Bool) (before after : ℕ) → (turned ≡ false → after ≡ before)
    → (turned ≡ true → CostsCone stands.net (valve ∷ []) before after)
    → after ≤ before + (if turned then length cone else 0)
few_steps zones checks reports index stands id place valve here first numbered cone has false before after quiet costs =
    let same = quiet refl in omega arith
few_steps zones checks reports index stands id place valve here first numbered cone has true before after quiet costs =
    let check = at_place zones checks reports index stands id place here first in
    let walk = costs refl in
    let most = cone_long zones checks index.numbers index.seats stands.net stands.own stands.numbers stands.are_zones stands.are_checks stands.sound
    (λ p w i c is is_at. ap (λ r. r.feeders) (stands.wired.its_checks p w i c is is_at).condition)
    (condition_seated zones (ids_of checks.list) index.numbers index.seats stands.net stands.own stands.wired.its_sets
    (early_in zones checks index.numbers stands.numbers stands.sound)) stands.wired.its_nodes stands.wired.spares
    valve id walk.0 cone (place, (check.0, (check.1, numbered))) walk.1.0 has in
    let is = walk.1.1 in
    omega arith
