-- The sets of a batch that a line gives are within their bounds.
use Rattle.std.proofs.Common.{◌≡◌, ℕ, List, Ok, subst}
use Rattle.std.specs.List.{AllByRecursion}
use Rattle.batch_model.specs.declared.batches.Batch.{Batch}
use Rattle.batch_model.specs.declared.batches.Change.{Change}
use Rattle.command_bounds.specs.LawsOfConfigModel.{HasBoundedSet, IsBoundedSet}
use Rattle.dns_name.specs.Laws.{TextsReadAsNames}
use Rattle.serde_json.specs.Data.{Data}
use Rattle.line_faults.specs.declared.member.Member.{Member}
use Rattle.line_faults.specs.declared.member.Member.TheVariants as m
use Rattle.line_reading.specs.Kinds.{list, text, one_of_texts}
use Rattle.line_reading.specs.Reading.{in_change, required}
use Rattle.batch_json.specs.ChangeLines.{action_of, change, change_batch, change_sets, changes}
use Rattle.batch_json.specs.Sets.{resource_record_set}
use Rattle.line_bounds.proofs.Sets.{set_is}
use Rattle.line_bounds.proofs.Steps.{after_object, each_has, in_its_change, required_has, same_ok, steps}
use Rattle.line_bounds.specs.Laws.{TextsAreValues}

abbrev AreBounded : List Change → Type 0
AreBounded changes = AllByRecursion HasBoundedSet changes

module _ (names : TextsReadAsNames) (law : TextsAreValues) where
  change_is : (zone : List ℕ) (h : Member) (o : Data) (given : Change) → change zone h o ≡ Ok given
      → HasBoundedSet given
  unfolding change
  change_is zone h o given e =
      let a = after_object _ _ _ _ _ given e in
      let b = steps (required m.Action (one_of_texts action_of) o) _ given a in
      let c = steps (required m.ResourceRecordSet (resource_record_set zone) o) _ given b.gives in
      subst HasBoundedSet (same_ok _ given c.gives)
      (required_has (λ x. IsBoundedSet x.set) m.ResourceRecordSet (resource_record_set zone) o c.value
      (set_is names law zone m.ResourceRecordSet) c.is)

  changes_are : (zone : List ℕ) (h : Member) (d : Data) (given : List Change)
      → changes zone h d ≡ Ok given → AreBounded given
  unfolding changes
  changes_are zone h d given e =
      let s = steps (list 0 65535 h d) _ given e in
      (each_has HasBoundedSet (λ k o. in_change k (change zone h o))
      (λ k o x r. change_is zone h o x (in_its_change k (change zone h o) x r)) 0 s.value given
      s.gives).0

  batch_are : (zone : List ℕ) (h : Member) (o : Data) (given : List Change)
      → change_batch zone h o ≡ Ok given → AreBounded given
  unfolding change_batch
  batch_are zone h o given e =
      let a = after_object _ _ _ _ _ given e in
      required_has AreBounded m.Changes (changes zone) o given (changes_are zone m.Changes) a

  pub batch_is : (o : Data) (batch : Batch) → change_sets o ≡ Ok batch → AreBounded batch.changes
  unfolding change_sets
  batch_is o batch e =
      let a = after_object _ _ _ _ _ batch e in
      let b = steps (required m.HostedZoneId text o) _ batch a in
      let c = steps (required m.ChangeBatch (change_batch b.value) o) _ batch b.gives in
      subst (λ (x : Batch). AreBounded x.changes) (same_ok _ batch c.gives)
      (required_has AreBounded m.ChangeBatch (change_batch b.value) o c.value
      (batch_are b.value m.ChangeBatch) c.is)
