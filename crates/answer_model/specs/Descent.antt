-- From the group of a name to the sets that answer, through alias records (Route 53 Developer
-- Guide, "Choosing a routing policy" and "Choosing between alias and non-alias records").
use Rattle.std.specs.Prelude.{ℕ, zero, suc, ◌+◌, ◌%◌, List, [], ◌∷◌, map, max, Bool, true, false}
use Rattle.std.specs.Prelude.{slice_get, slice_index}
use Rattle.std.specs.List.{filter_map}
use Rattle.choice_model.specs.Choice.{chosen}
use Rattle.zone_model.specs.BodyRecord.{Body}
use Rattle.zone_model.specs.BodyRecord.TheVariants as body
use Rattle.zone_model.specs.RecordSetRecord.{RecordSet}
use Rattle.zone_model.specs.SetKeyRecord.{SetKey}
use Rattle.zone_model.specs.Sets.{key_of}
use Rattle.routing.specs.declared.policies.Routing.{Routing}
use Rattle.routing.specs.declared.policies.Routing.TheVariants as routing
use Rattle.zone_model.specs.Zones.{target_group}
use Rattle.answer_model.specs.declared.used.Used.{Used}
use Rattle.answer_model.specs.Clients.{Client}

-- ---- what choices use

-- nothing yet
abbrev pub unused : Used
unused = record { places = false; latencies = false; blocks = 0 }

-- What a choice by this policy uses: the table of places, that of latencies, or a collection of
-- blocks, of which the greatest scope is kept.
abbrev pub uses : Client → Routing → Used → Used
uses client (routing.Geolocation ident place) used = record used { places = true }
uses client (routing.Latency ident region) used = record used { latencies = true }
uses client (routing.Cidr ident collection location) used =
    record used { blocks = max used.blocks (client.blocks collection) }
uses client other used = used

-- The same of a choice from a group, whose policy is that of its first set. It is used where no set
-- applies to the client too.
abbrev pub group_uses : Client → (group : List RecordSet) → Used → Used
group_uses client [] used = used
group_uses client (first ∷ others) used = uses client first.routing used

-- how many choices a query has made, and what they used
pub record Choices : Type 0 where
  pub count : ℕ
  pub used : Used

abbrev pub no_choices : Choices
no_choices = record { count = 0; used = unused }

-- ---- one choice

-- What choices are made by: the test of healthy sets, the client, and the query's eight words.
pub record Means : Type 0 where
  pub healthy : SetKey → Bool
  pub client : Client
  pub words : List ℕ

-- the word of a choice after k others: number `k mod 8` (own)
abbrev pub word_of : (words : List ℕ) → (k : ℕ) → ℕ
word_of words k = slice_index words (k % 8)

-- the sets at these places of a group
abbrev pub sets_at : (group : List RecordSet) → (places : List ℕ) → List RecordSet
sets_at group places = filter_map (slice_get group) places

-- which sets of a group are healthy
abbrev pub healthy_in : (healthy : SetKey → Bool) → (group : List RecordSet) → List Bool
healthy_in healthy group = map (λ (set : RecordSet). healthy (key_of set)) group

-- the chosen sets of a group, in the order of the choice
abbrev pub selected : Means → (group : List RecordSet) → (word : ℕ) → List RecordSet
selected by group word =
    sets_at group (chosen group (healthy_in by.healthy group) by.client.rows word)

-- the choices with the one from this group
abbrev pub with_choice : Means → (group : List RecordSet) → Choices → Choices
with_choice by group choices = record {
  count = choices.count + 1;
  used = group_uses by.client group choices.used;
}

-- ---- from alias to alias

-- the sets that answer, none where nothing is chosen, and the choices after them
pub record Descended : Type 0 where
  pub sets : List RecordSet
  pub choices : Choices

-- Chosen sets with values answer. A chosen alias leads on.
abbrev pub by_body : Body → (here further : Descended) → Descended
by_body (body.Values ttl values) here further = here
by_body (body.Alias target evaluate) here further = further

abbrev pub by_choice : (chosen_sets : List RecordSet) → Choices
    → (from_target : (alias : RecordSet) → Descended) → Descended
by_choice [] choices from_target = record { sets = []; choices = choices }
by_choice (set ∷ sets) choices from_target =
    by_body set.body (record { sets = set ∷ sets; choices = choices }) (from_target set)

-- From a group with so many choices at most. Of no sets none is chosen, and that is no choice.
abbrev pub descends : (most : ℕ) → Means → (zone group : List RecordSet) → Choices → Descended
descends zero by zone group choices = record { sets = []; choices = choices }
descends (suc most) by zone [] choices = record { sets = []; choices = choices }
descends (suc most) by zone (first ∷ others) choices =
    by_choice (selected by (first ∷ others) (word_of by.words choices.count))
    (with_choice by (first ∷ others) choices)
    (λ alias. descends most by zone (target_group zone alias)
    (with_choice by (first ∷ others) choices))

-- The same with 17 at most: in a sound zone no alias is left then (own).
unfoldable pub descend : Means → (zone group : List RecordSet) → Choices → Descended
descend by zone group choices = descends 17 by zone group choices
