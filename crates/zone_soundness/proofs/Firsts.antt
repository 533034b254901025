-- The first set that breaks a rule, and none.
use Rattle.std.proofs.Common.{ℕ, List, length, None, Some}
use Rattle.std.proofs.lemmas.Option.{slice_get_within}
use Rattle.alias_tree.specs.Firsts.{IsFirstPlace}
use Rattle.zone_rules.specs.Rules.{CnameAlone, GroupSize, IsFirstBreak, MeetsAll, NoneBreaksBefore}
use Rattle.zone_rules.specs.Rules.{OnePolicy, OwnPlace, Rule, rules}
use Rattle.zone_rules.specs.BatchRefusalRecord.{BatchRefusal}
use Rattle.zone_rules.specs.BatchRefusalRecord.TheVariants as batch
use Rattle.config_model.specs.Told.{NoSet}
use Rattle.record_set.specs.declared.sets.RecordSet.{RecordSet}
use Rattle.config_model.proofs.Among.{among_at, place_of}
use Rattle.zone_rules.specs.Breaks.{TellsBreak}

module _ (Has : RecordSet → Type 0) (sets : List RecordSet) where
  pub none_of : IsFirstPlace Has sets None → NoSet Has sets
  none_of none set there has =
      let place = place_of sets set there in
      none place.0 (slice_get_within sets place.0 set place.1) (set, place.1, has)

  pub not_none : (i : ℕ) → IsFirstPlace Has sets (Some i) → NoSet Has sets → ⊥
  not_none i first none =
      let at = first.0 in none at.0 (among_at sets i at.0 at.1) at.2

module _ (sets : List RecordSet) (apex : List (List ℕ)) where
  broken : (rule : Rule) (set : RecordSet) → IsFirstBreak rule sets apex set
      → NoneBreaksBefore rule sets apex (length sets) → ⊥
  broken rule set first none =
      none first.at (slice_get_within sets first.at set first.there)
      (set, first.there, first.breaks)

  pub not_met : (why : BatchRefusal) → TellsBreak sets apex (Some why)
      → MeetsAll rules sets apex → ⊥
  not_met (batch.MixedPolicies key) tells meets = broken OnePolicy tells.0 tells.1 meets.0
  not_met (batch.CnameConflict name) tells meets = broken CnameAlone tells.0 tells.1 meets.1.0
  not_met (batch.SamePlace key) tells meets = broken OwnPlace tells.0 tells.1 meets.1.1.0
  not_met (batch.GroupFull name rtype) tells meets =
      broken GroupSize tells.0 tells.1 meets.1.1.1.0
  not_met batch.EmptyBatch tells meets = tells
  not_met (batch.InvalidInput i reason) tells meets = tells
  not_met batch.TooManyValues tells meets = tells
  not_met batch.TooManyCharacters tells meets = tells
  not_met (batch.NotInZone i) tells meets = tells
  not_met (batch.AlreadyExists i) tells meets = tells
  not_met (batch.NotFound i) tells meets = tells
  not_met (batch.ValuesDiffer i) tells meets = tells
  not_met (batch.ApexProtected i) tells meets = tells
  not_met batch.OutOfMemory tells meets = tells
