-- Records of chosen sets.
use Rattle.std.specs.Prelude.{◌≡◌, ◌<◌, ℕ, List, [], ◌∷◌, Bool, true, false, not, slice_get, Option, None, Some}
use Rattle.std.specs.List.{All, filter, flat_map}
use Rattle.dns_wire.specs.Message.{Record}
use Rattle.record_set.specs.declared.sets.RecordSet.{RecordSet}
use Rattle.policy_select.specs.Zones.{Zone}
use Rattle.zone_model.specs.Zones.{IsAmong}
use Rattle.policy_select.specs.GroupRecord.{Group}
use Rattle.policy_select.specs.Descent.{sets_at}
use Rattle.policy_select.specs.Records.{answer_records, data_of, is_among, joint_data}
use Rattle.policy_select.specs.Groups.{sets_in}

-- these are places of the group
abbrev pub ArePlaces : Group → (places : List ℕ) → Type 0
ArePlaces g places = All (λ place. place < g.length) places

-- the sets at some places of a group
abbrev pub sets_of_places : List Zone → Group → (places : List ℕ) → List RecordSet
sets_of_places zones g places = sets_at (sets_in zones g) places

-- all data of some sets
abbrev pub all_data : List RecordSet → List (List ℕ)
all_data sets = flat_map (λ (set : RecordSet). data_of set.body) sets

-- the data that none of the earlier sets has
abbrev pub new_data : (earlier : List RecordSet) → List (List ℕ) → List (List ℕ)
new_data earlier rdatas = filter (λ rdata. not (is_among (all_data earlier) rdata)) rdatas

-- The first record with which sets answer a name has this TTL, and its data are the first of the
-- set that is held, whose type it has.
pub record StartsWith (sets : List RecordSet) (held : Option RecordSet) (ttl : ℕ) : Type 0 where
  pub set : RecordSet
  pub is_held : held ≡ Some set
  pub rdata : List ℕ
  pub first : slice_get (data_of set.body) 0 ≡ Some rdata
  pub among : IsAmong sets set
  pub starts : (owner : List (List ℕ)) → (others : List Record)
      × (answer_records owner sets
      ≡ record { owner = owner; rtype = set.rtype; ttl = ttl; rdata = rdata } ∷ others)

-- it; or the sets have no record
abbrev pub StartsOrNone : List RecordSet → (held : Option RecordSet) → Option ℕ → Type 0
StartsOrNone sets held None = (owner : List (List ℕ)) → answer_records owner sets ≡ []
StartsOrNone sets held (Some ttl) = StartsWith sets held ttl

-- The set that is held is the first of these that has a value.
pub record IsValued (sets : List RecordSet) (held : Option RecordSet) : Type 0 where
  pub set : RecordSet
  pub is_held : held ≡ Some set
  pub rdata : List ℕ
  pub first : slice_get (data_of set.body) 0 ≡ Some rdata
  pub among : IsAmong sets set
  pub starts : (others : List (List ℕ)) × (joint_data [] sets ≡ rdata ∷ others)

-- it; or none has a value
abbrev pub HoldsValued : List RecordSet → (held : Option RecordSet) → Bool → Type 0
HoldsValued sets held true = IsValued sets held
HoldsValued sets held false = joint_data [] sets ≡ []
