-- Where chosen sets stand, and when some set is chosen.
use Rattle.std.specs.Prelude.{◌≡◌, ◌<◌, ◌≤◌, ℕ, Bool, List, ◌∷◌, length, ⊤}
use Rattle.std.specs.List.{All}
use Rattle.record_set.specs.declared.sets.RecordSet.{RecordSet}
use Rattle.routing.specs.declared.policies.Routing.{Routing}
use Rattle.routing.specs.declared.policies.Routing.TheVariants as routing
use Rattle.choice_model.specs.Choice.{ClientRows, chosen}

-- Chosen sets are sets of the group, and at most eight.
pub record ChosenOfGroup (group : List RecordSet) (sets : List ℕ) : Type 0 where
  pub within : All (λ set. set < length group) sets
  pub few : length sets ≤ 8

abbrev pub ChosenAreOfGroup : Type 0
ChosenAreOfGroup = (group : List RecordSet) (healthy : List Bool) (rows : ClientRows) (word : ℕ)
    → length healthy ≡ length group → ChosenOfGroup group (chosen group healthy rows word)

-- A policy by which a set is chosen for each client. By place or by address block there may be none that
-- applies to the client.
abbrev pub IsForEachClient : Routing → Type 0
IsForEachClient (routing.Geolocation ident place) = ⊥
IsForEachClient (routing.Cidr ident collection location) = ⊥
IsForEachClient other = ⊤

abbrev pub SomeIsChosen : Type 0
SomeIsChosen =
    (first : RecordSet) (others : List RecordSet) (healthy : List Bool) (rows : ClientRows) (word : ℕ)
    → length healthy ≡ length (first ∷ others) → IsForEachClient first.routing
    → 0 < length (chosen (first ∷ others) healthy rows word)
