-- What the refusals after the last change of a batch say, in words.
use Rattle.std.specs.Prelude.{◌≡◌, ◌≤◌, ◌<◌, ◌+◌, ◌↔◌, ℕ, List, length, Option, None, Some, true}
use Rattle.std.specs.Prelude.{slice_get}
use Rattle.std.specs.List.{sum_by}
use Rattle.check_model.specs.Checks.{IsId}
use Rattle.check_model.specs.declared.checks.Check.{Check}
use Rattle.command_octets.specs.CollectionRecord.{Collection}
use Rattle.command_octets.specs.Kept.{IsThere}
use Rattle.set_reading.specs.RecordSetRecord.{RecordSet}
use Rattle.set_reading.specs.RoutingRecord.TheVariants.{Cidr}
use Rattle.command_octets.specs.Hosted.{HostedZone}
use Rattle.command_octets.specs.Walks.{HasNoTarget, IsTooDeep, StartsWalk}
use Rattle.command_octets.specs.Zones.{IsAmong}
use Rattle.config_model.specs.Batches.{first_among, leads_on, sets_refusal, store_refusal}
use Rattle.config_model.specs.Configs.{count_of, octets_of}
use Rattle.config_model.specs.declared.refusals.Refusal.{Refusal}

-- The refusal is that of a set, and no set before it is refused.
pub record IsFirstRefused (refuses : RecordSet → Option Refusal) (sets : List RecordSet)
    (why : Refusal) : Type 0 where
  pub at : ℕ
  pub set : RecordSet
  pub there : slice_get sets at ≡ Some set
  pub refused : refuses set ≡ Some why
  pub first : (i : ℕ) (other : RecordSet) → i < at → slice_get sets i ≡ Some other
      → refuses other ≡ None

abbrev pub FirstOrNone : (RecordSet → Option Refusal) → List RecordSet → Option Refusal → Type 0
FirstOrNone refuses sets None = (set : RecordSet) → IsAmong sets set → refuses set ≡ None
FirstOrNone refuses sets (Some why) = IsFirstRefused refuses sets why

-- No set has this.
abbrev pub NoSet : (RecordSet → Type 0) → List RecordSet → Type 0
NoSet Has sets = (set : RecordSet) → IsAmong sets set → Has set → ⊥

-- What the sets of a zone name is there; each alias leads to a set, and no walk of 17 links starts;
-- they are at most 10,000.
pub record AreInOrder (checks : List (ℕ × Check)) (collections : List (ℕ × Collection))
    (zone : List RecordSet) : Type 0 where
  pub checks_there : (set : RecordSet) (id : ℕ) → IsAmong zone set → set.check ≡ Some id
      → IsId checks id
  pub places_there : (set : RecordSet) (ident : List ℕ) (id : ℕ) (location : List ℕ)
      → IsAmong zone set → set.routing ≡ Cidr ident id location
      → IsThere collections (id, location)
  pub targets_there : NoSet (HasNoTarget zone) zone
  pub not_too_deep : NoSet (IsTooDeep zone) zone
  pub few : length zone ≤ 10000

-- The zones have at most 100,000 sets, of at most 67,108,864 octets.
pub record AreNotFull (zones : List HostedZone) : Type 0 where
  pub sets : sum_by count_of zones ≤ 100000
  pub octets : sum_by octets_of zones ≤ 67108864

pub record RefusalsAreTold : Type 0 where
  -- the first refusal of sets is that of the first one that is refused
  pub first : (refuses : RecordSet → Option Refusal) (sets : List RecordSet)
      → FirstOrNone refuses sets (first_among refuses sets)
  -- an alias leads on so many times where a walk of a link more starts
  pub walks : (times : ℕ) (zone : List RecordSet) (set : RecordSet) → IsAmong zone set
      → (leads_on times zone set ≡ true) ↔ StartsWalk zone set (times + 1)
  -- nothing is refused where all is in order
  pub none : (checks : List (ℕ × Check)) (collections : List (ℕ × Collection))
      (zone : List RecordSet)
      → (sets_refusal checks collections zone ≡ None) ↔ AreInOrder checks collections zone
  -- nor where all zones have room
  pub store : (zones : List HostedZone) → (store_refusal zones ≡ None) ↔ AreNotFull zones
