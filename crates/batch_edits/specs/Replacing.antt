-- A set that gives way to one of its key and its policy, but for a weight.
use Rattle.std.specs.Prelude.{◌≡◌, ◌≢◌, ◌⊎◌, List, [], ◌∷◌}
use Rattle.record_set.specs.RoutingRecord.{Routing}
use Rattle.record_set.specs.RoutingRecord.TheVariants as routing
use Rattle.record_set.specs.declared.sets.RecordSet.{RecordSet}
use Rattle.record_set.specs.Sets.{key_of}
use Rattle.config_model.specs.Placing.{IsSetOf}
use Rattle.change_batch.specs.ActionRecord.TheVariants.{Upsert}
use Rattle.change_batch.specs.ChangeRecord.{Change}
use Rattle.batch_edits.specs.declared.editing.Edit.{Edit}

-- A policy as the rules for groups and names see it: all weights are alike to them.
abbrev pub seen : Routing → Routing
seen routing.Simple = routing.Simple
seen (routing.Weighted ident weight) = routing.Weighted ident 0
seen (routing.Failover ident role) = routing.Failover ident role
seen (routing.Geolocation ident place) = routing.Geolocation ident place
seen (routing.Latency ident region) = routing.Latency ident region
seen (routing.Multivalue ident) = routing.Multivalue ident
seen (routing.Cidr ident collection location) = routing.Cidr ident collection location

-- The batch is one UPSERT, and this is the set of its key, which has the policy that it gives, but for
-- a weight.
pub record IsReplaced (sets : List RecordSet) (changes : List Change) (old : RecordSet) : Type 0 where
  pub change : Change
  pub only : changes ≡ change ∷ []
  pub action : change.action ≡ Upsert
  pub set : IsSetOf sets (key_of change.set) old
  pub routing : seen old.routing ≡ seen change.set.routing

-- A set gives way to another, where the two differ.
abbrev pub Swaps : (old new : RecordSet) → Edit → Type 0
Swaps old new edit =
    ((old ≡ new) × (edit.remove ≡ []) × (edit.add ≡ []))
    ⊎ ((old ≢ new) × (edit.remove ≡ key_of old ∷ []) × (edit.add ≡ new ∷ []))
