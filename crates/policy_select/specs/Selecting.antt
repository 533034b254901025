-- What is selected of a group, and at the end of aliases.
use Rattle.std.specs.Prelude.{◌≡◌, ◌<◌, ◌+◌, ℕ, List, [], ◌∷◌, Bool, length, take, slice_get, Option}
use Rattle.std.specs.Prelude.{None, Some, ⊤}
use Rattle.std.specs.List.{All}
use Rattle.multivalue.specs.Answer.{picked}
use Rattle.multivalue.specs.declared.choice.Picked.{Picked}
use Rattle.routing.specs.declared.policies.Routing.TheVariants as routing
use Rattle.zone_table.specs.Bodies.{values_of}
use Rattle.zone_table.specs.Reasons.{IsAlias}
use Rattle.zone_table.specs.RecordSetRecord.{RecordSet}
use Rattle.zone_table.specs.SetKeyRecord.{SetKey}
use Rattle.zone_table.specs.Zones.{Zone}
use Rattle.zone_table.specs.Sets.{target_group}
use Rattle.zone_table.specs.Looking.{IsGroupNow}
use Rattle.zone_table.specs.GroupRecord.{Group}
use Rattle.answer_model.specs.declared.used.Used.{Used}
use Rattle.answer_model.specs.Clients.{Client}
use Rattle.answer_model.specs.Descent.{Choices, Descended, Means, descend, sets_at}
use Rattle.answer_model.specs.Choice.{chosen}
use Rattle.zone_table.specs.SetRefRecord.{SetRef}
use Rattle.policy_select.specs.declared.selection.Selected.{Selected}
use Rattle.policy_select.specs.declared.selection.Selected.TheVariants.{Nothing, Sets}
use Rattle.policy_select.specs.Groups.{Agrees, flags_in, sets_in, sets_in_zone}

-- the sets at some places of a group, in the order of the choice; nothing where there are none
abbrev pub selected_of : Group → (places : List ℕ) → Selected
selected_of g [] = Nothing
selected_of g (place ∷ places) = Sets g (picked (place ∷ places))

-- the places that were chosen
abbrev pub places_of : Picked → List ℕ
places_of chosen = take chosen.count chosen.places

-- which sets these are
abbrev pub selected_sets : List Zone → Selected → List RecordSet
selected_sets zones Nothing = []
selected_sets zones (Sets g chosen) = sets_at (sets_in zones g) (places_of chosen)

-- Selected places are places of a group that is there, and there is one at least.
abbrev pub AreOfGroup : List Zone → Selected → Type 0
AreOfGroup zones Nothing = ⊤
AreOfGroup zones (Sets g chosen) =
    IsGroupNow zones g × (0 < length (places_of chosen))
    × All (λ place. place < g.length) (places_of chosen)

-- What a descent gives: its sets, and its choices with what they used.
pub record Gives (zones : List Zone) (descended : Descended) (selected : Selected) (made : ℕ)
    (used : Used) : Type 0 where
  pub sets : selected_sets zones selected ≡ descended.sets
  pub count : made ≡ descended.choices.count
  pub uses : used ≡ descended.choices.used

-- what the choices of a zone are made by
abbrev pub means_of : (healthy : SetKey → Bool) → Client → (words : List ℕ) → Means
means_of healthy client words = record { healthy = healthy; client = client; words = words }

-- the group is one of this zone
abbrev pub IsInZone : (zone : ℕ) → Selected → Type 0
IsInZone zone Nothing = ⊤
IsInZone zone (Sets g chosen) = g.zone ≡ zone

-- The first selected set is an alias, and this is its target group.
pub record IsTarget (zones : List Zone) (zone : ℕ) (selected : Selected) (target : Group)
    : Type 0 where
  pub set : RecordSet
  pub first : slice_get (selected_sets zones selected) 0 ≡ Some set
  pub alias : IsAlias set.body
  pub group : IsGroupNow zones target
  pub in_zone : target.zone ≡ zone
  pub sets : sets_in zones target ≡ target_group (sets_in_zone zones zone) set

-- where a selection leads: to the target group of its first set, or nowhere where that is no alias
abbrev pub LeadsTo : List Zone → (zone : ℕ) → Selected → Option Group → Type 0
LeadsTo zones zone selected None = (set : RecordSet)
    → slice_get (selected_sets zones selected) 0 ≡ Some set → IsAlias set.body → ⊥
LeadsTo zones zone selected (Some target) = IsTarget zones zone selected target

-- The set is an alias, and this is its target group in the zone.
pub record IsTargetOf (zones : List Zone) (zone : ℕ) (set : RecordSet) (target : Group)
    : Type 0 where
  pub alias : IsAlias set.body
  pub group : IsGroupNow zones target
  pub in_zone : target.zone ≡ zone
  pub sets : sets_in zones target ≡ target_group (sets_in_zone zones zone) set

-- it; or it is no alias
abbrev pub TargetOf : List Zone → (zone : ℕ) → RecordSet → Option Group → Type 0
TargetOf zones zone set None = IsAlias set.body → ⊥
TargetOf zones zone set (Some target) = IsTargetOf zones zone set target

-- The first selected set is held, where there is one.
abbrev pub HoldsFirst : List Zone → Selected → (held : Option RecordSet) → Type 0
HoldsFirst zones Nothing held = ⊤
HoldsFirst zones (Sets g chosen) held = (set : RecordSet) × (held ≡ Some set)
    × (slice_get (selected_sets zones (Sets g chosen)) 0 ≡ Some set)

-- The first set of the group that was chosen from is held.
abbrev pub HoldsFront : List Zone → Selected → (held : Option RecordSet) → Type 0
HoldsFront zones Nothing held = ⊤
HoldsFront zones (Sets g chosen) held = held ≡ slice_get (sets_in zones g) 0

-- what is chosen of a group by a word
abbrev pub choice_of : List Zone → (view : SetRef → Bool) → Client → Group → (word : ℕ) → Selected
choice_of zones view client g word =
    selected_of g (chosen (sets_in zones g) (flags_in zones view g) client.rows word)

-- A descent from a group gives this, by each test of keys with which the view agrees.
abbrev pub GivesDescent : List Zone → (view : SetRef → Bool) → Client → (words : List ℕ) → Group
    → (descent : Means → (zone group : List RecordSet) → Choices → Descended) → Choices
    → Selected → (made : ℕ) → Used → Type 0
GivesDescent zones view client words g descent before selected made used =
    (healthy : ℕ → SetKey → Bool) → Agrees zones view healthy
    → Gives zones
    (descent (means_of (healthy g.zone) client words) (sets_in_zone zones g.zone)
    (sets_in zones g) before) selected made used

-- The set is simple and has values.
abbrev pub AnswersAlone : RecordSet → Type 0
AnswersAlone set = (set.routing ≡ routing.Simple) × (0 < length (values_of set.body))

-- A descent from a group ends with its first set, by one choice, which uses nothing.
abbrev pub EndsWithFirst : List Zone → Group → Type 0
EndsWithFirst zones g = (view : SetRef → Bool) (client : Client) (words : List ℕ) (count : ℕ)
    (used : Used)
    → GivesDescent zones view client words g descend (record { count = count; used = used })
    (selected_of g (0 ∷ [])) (count + 1) used
