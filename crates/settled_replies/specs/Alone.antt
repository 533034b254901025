-- Groups that come to one set alone.
use Rattle.std.specs.Prelude.{◌≡◌, ℕ, List, [], ◌∷◌, Bool, length}
use Rattle.choice_model.specs.Choice.{ClientRows, chosen_by}
use Rattle.record_set.specs.declared.sets.RecordSet.{RecordSet}
use Rattle.record_set.specs.declared.sets.SetKey.{SetKey}
use Rattle.routing.specs.declared.policies.Role.{Role}
use Rattle.routing.specs.declared.policies.Routing.{Routing}
use Rattle.routing.specs.declared.policies.Routing.TheVariants as routing
use Rattle.reply_records.specs.SelectedRecord.{Selected}
use Rattle.reply_records.specs.SelectedRecord.TheVariants as selected
use Rattle.reply_records.specs.Selecting.{places_of}
use Rattle.zone_lookup.specs.Clients.{Client}
use Rattle.zone_lookup.specs.Descent.{descend, no_choices}
use Rattle.zone_lookup.specs.UsedRecord.{Used}

-- By this test of healthy sets a group of a zone comes to this set alone for a client, by all words: one choice tells
-- it, which uses this.
abbrev pub ComesTo : (healthy : SetKey → Bool) → Client → (zone group : List RecordSet) → RecordSet → Used → Type 0
ComesTo healthy client zone group set used =
    (words : List ℕ) → descend (record { healthy = healthy; client = client; words = words }) zone group no_choices
    ≡ record { sets = set ∷ []; choices = record { count = 1; used = used } }

-- By this policy no word is used.
abbrev pub IsWordless : Routing → Type 0
IsWordless policy = (group : List RecordSet) (healthy : List Bool) (rows : ClientRows) (word other : ℕ)
    → chosen_by policy group healthy rows word ≡ chosen_by policy group healthy rows other

-- the policy of failover
abbrev pub IsFailover : Routing → Type 0
IsFailover policy = (ident : List ℕ) × (role : Role) × (policy ≡ routing.Failover ident role)

-- one set is selected
abbrev pub IsOne : Selected → Type 0
IsOne selected.Nothing = ⊥
IsOne (selected.Sets group picked) = length (places_of picked) ≡ 1
