-- The parts of which it is made that a zone is sound, as they are looked at one after another.
use Rattle.std.specs.Prelude.{◌≡◌, ◌≤◌, ℕ, List, length, Option, None, Some, true}
use Rattle.zone_rules.specs.Rules.{MeetsAll, rules}
use Rattle.check_model.specs.Checks.{IsId}
use Rattle.check_model.specs.declared.checks.Check.{Check}
use Rattle.cidr_blocks.specs.declared.places.Collection.{Collection}
use Rattle.cidr_commands.specs.Kept.{IsThere as IsPlaceThere}
use Rattle.config_model.specs.NewZones.{is_zone_name}
use Rattle.config_model.specs.Sound.{ns_key, soa_key}
use Rattle.config_model.specs.Told.{NoSet}
use Rattle.dns_name.specs.Suffix.{EndsWith}
use Rattle.record_set.specs.Reasons.{IsFirst}
use Rattle.record_set.specs.declared.sets.RecordSet.{RecordSet}
use Rattle.routing.specs.declared.policies.Routing.{Routing}
use Rattle.routing.specs.declared.policies.Routing.TheVariants.{Cidr}
use Rattle.config_model.specs.OctetsOfSetOctets.{HasSpelling}
use Rattle.config_model.specs.SetsOfSetReading.{IsSet}
use Rattle.config_model.specs.Placing.{IsThere}
use Rattle.config_model.specs.Walks.{HasNoTarget, IsTooDeep}
use Rattle.config_model.specs.Zones.{IsRising}

-- A zone may have this name; its sets are at most 10,000, in zone order with distinct keys, and
-- among them are those that a zone always has.
pub record IsLaidOut (apex : List (List ℕ)) (sets : List RecordSet) : Type 0 where
  pub name : is_zone_name apex ≡ true
  pub few : length sets ≤ 10000
  pub rising : IsRising sets
  pub ns : IsThere sets (ns_key apex)
  pub soa : IsThere sets (soa_key apex)

-- the check that is named, if there is one, is there
abbrev pub IsCheckThere : List (ℕ × Check) → Option ℕ → Type 0
IsCheckThere checks named = (id : ℕ) → named ≡ Some id → IsId checks id

-- the collection and the location that a policy names, if it does, are there
abbrev pub ArePlacesThere : List (ℕ × Collection) → Routing → Type 0
ArePlacesThere collections routing = (ident : List ℕ) (id : ℕ) (location : List ℕ)
    → routing ≡ Cidr ident id location → IsPlaceThere collections (id, location)

-- A set is made of parts as sets are, is in the zone, is allowed by itself, has a spelling, and
-- names what is there.
pub record IsSoundSet (checks : List (ℕ × Check)) (collections : List (ℕ × Collection))
    (apex : List (List ℕ)) (set : RecordSet) : Type 0 where
  pub parts : IsSet set
  pub inside : EndsWith set.name apex
  pub allowed : IsFirst None set apex
  pub spelled : HasSpelling set
  pub check : IsCheckThere checks set.check
  pub places : ArePlacesThere collections set.routing

-- The sets meet the rules for groups and names; each alias leads to a set, and none too far.
pub record AreTogether (apex : List (List ℕ)) (sets : List RecordSet) : Type 0 where
  pub rules : MeetsAll rules sets apex
  pub led : NoSet (HasNoTarget sets) sets
  pub shallow : NoSet (IsTooDeep sets) sets
