-- The edit of a batch that puts one set in the place of another, as an edit of the whole zone.
use Rattle.std.proofs.Common.{◌≡◌, ℕ, List, [], ◌∷◌, Some, true, refl, sym, ap, subst, inl}
use Rattle.std.specs.Prelude.{Ok, Err}
use Rattle.std.specs.List.{AllByRecursion}
use Rattle.batch_limits.specs.Tests.{TellsLimits}
use Rattle.batch_names.proofs.Applied.{leaves_zone}
use Rattle.batch_names.proofs.Filtered.{in_filter}
use Rattle.batch_names.proofs.Ruled.{meets_few}
use Rattle.batch_names.proofs.Runs.{named_is}
use Rattle.batch_names.specs.AllZones.{AreZones, Zone, placed_in}
use Rattle.batch_names.specs.Laws.{NamesDecide}
use Rattle.batch_names.specs.LawsOfZoneTable.{OneApex, SetsOfOne}
use Rattle.batch_names.specs.Looking.{IsApex}
use Rattle.batch_names.specs.Named.{named_in, names}
use Rattle.change_batch.specs.BatchRefusalRecord.{BatchRefusal}
use Rattle.change_batch.specs.BatchRefusalRecord.TheVariants as batch
use Rattle.change_batch.specs.Batches.{IsWithinLimits, Leaves, Prepares}
use Rattle.change_batch.specs.ChangeRecord.{Change}
use Rattle.change_batch.specs.Rules.{rules}
use Rattle.config_model.specs.Laws.{HasBoundedSet}
use Rattle.config_model.specs.Slotted.{sets_of}
use Rattle.config_model.specs.Zones.{IsAmong, IsZone}
use Rattle.record_set.specs.declared.sets.RecordSet.{RecordSet}
use Rattle.record_set.specs.declared.sets.SetKey.{SetKey}
use Rattle.batch_edits.specs.Edits.{EditsOrNot, MeetsRules}
use Rattle.batch_edits.specs.Replacing.{IsReplaced, Swaps}
use Rattle.batch_edits.specs.declared.editing.Edit.{Edit}
use Rattle.batch_edits.proofs.Faces.{meets_too}
use Rattle.batch_edits.proofs.InPlace.{difference, leaves, remaining, same_faces}
use Rattle.batch_edits.proofs.Whole.{edited_whole, few_of_zone}

-- what a batch is refused for by itself it is refused for in each zone
limits_refuse : (sets : List RecordSet) (apex : List (List ℕ)) (changes : List Change)
    (why : BatchRefusal) → TellsLimits changes apex (Some why)
    → Prepares sets apex changes (Err why)
limits_refuse sets apex changes batch.EmptyBatch tells = tells
limits_refuse sets apex changes (batch.InvalidInput i reason) tells = tells
limits_refuse sets apex changes batch.TooManyValues tells = tells
limits_refuse sets apex changes batch.TooManyCharacters tells = tells
limits_refuse sets apex changes (batch.NotInZone i) tells = absurd tells
limits_refuse sets apex changes (batch.AlreadyExists i) tells = absurd tells
limits_refuse sets apex changes (batch.NotFound i) tells = absurd tells
limits_refuse sets apex changes (batch.ValuesDiffer i) tells = absurd tells
limits_refuse sets apex changes (batch.ApexProtected i) tells = absurd tells
limits_refuse sets apex changes (batch.MixedPolicies key) tells = absurd tells
limits_refuse sets apex changes (batch.CnameConflict name) tells = absurd tells
limits_refuse sets apex changes (batch.SamePlace key) tells = absurd tells
limits_refuse sets apex changes (batch.GroupFull name rtype) tells = absurd tells
limits_refuse sets apex changes batch.OutOfMemory tells = absurd tells

module _ (law : NamesDecide) (one : OneApex) (of_one : SetsOfOne) (zones : List Zone) (id : ℕ)
    (apex : List (List ℕ)) (changes : List Change) (are : AreZones zones)
    (its : IsApex zones id apex) where
  pub refused_by_limits : (why : BatchRefusal) → TellsLimits changes apex (Some why)
      → (other : List (List ℕ)) → IsApex zones id other
      → EditsOrNot zones id other changes (Err why)
  refused_by_limits why tells other others =
      subst (λ a. Prepares (sets_of (placed_in zones id)) a changes (Err why))
      (one zones id apex other are its others)
      (limits_refuse (sets_of (placed_in zones id)) apex changes why tells)

  module _ (sound : MeetsRules zones id) (bounded : AllByRecursion HasBoundedSet changes)
      (old : RecordSet) (is : IsReplaced (sets_of (placed_in zones id)) changes old)
      (limits : IsWithinLimits changes apex) (edit : Edit)
      (swaps : Swaps old is.change.set edit) where
    abbrev few : List RecordSet
    few = named_in changes (sets_of (placed_in zones id))

    pub replaced_whole : (other : List (List ℕ)) → IsApex zones id other
        → EditsOrNot zones id other changes (Ok edit)
    replaced_whole other others =
        let zone : IsZone few apex =
        few_of_zone law one of_one zones id apex changes few are its refl in
        let among : IsAmong changes is.change =
        subst (λ cs. IsAmong cs is.change) (sym is.only) (inl refl) in
        let named : names changes old.name ≡ true =
        named_is changes old.name
        (is.change, among, ap (λ (k : SetKey). k.name) (sym is.set.same_key)) in
        let there : IsAmong few old =
        in_filter (λ (set : RecordSet). names changes set.name) (sets_of (placed_in zones id)) old
        is.set.there named in
        let after =
        remaining few apex is.change old zone is.action there is.set.same_key is.routing in
        let left : Leaves few apex changes after =
        subst (λ cs. Leaves few apex cs after) (sym is.only)
        (leaves few apex is.change old zone is.action there is.set.same_key is.routing) in
        let still : IsZone after apex = leaves_zone apex changes few after zone left in
        let meets =
        meets_too few after
        (same_faces few apex is.change old zone is.action there is.set.same_key is.routing) apex rules
        (meets_few (names changes) (sets_of (placed_in zones id)) apex rules (sound apex its)) in
        edited_whole law one of_one zones id apex changes few are its refl sound bounded after edit
        (limits, left, meets) still
        (difference few apex is.change old zone is.action there is.set.same_key is.routing still edit
        swaps) other others

  -- the same of the changes as they are read
  pub replaced_so : MeetsRules zones id → AllByRecursion HasBoundedSet changes → (old : RecordSet)
      → (given : List Change) → given ≡ changes
      → IsReplaced (sets_of (placed_in zones id)) given old → IsWithinLimits given apex
      → (edit : Edit) → ((change : Change) → given ≡ change ∷ [] → Swaps old change.set edit)
      → (other : List (List ℕ)) → IsApex zones id other
      → EditsOrNot zones id other changes (Ok edit)
  replaced_so sound bounded old given same is limits edit swaps other others =
      subst (λ (cs : List Change). IsReplaced (sets_of (placed_in zones id)) cs old
      → IsWithinLimits cs apex
      → ((change : Change) → cs ≡ change ∷ [] → Swaps old change.set edit)
      → EditsOrNot zones id other changes (Ok edit)) (sym same)
      (λ it within swap.
      replaced_whole sound bounded old it within edit (swap it.change it.only) other others) is limits
      swaps
