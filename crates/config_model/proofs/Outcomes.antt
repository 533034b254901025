-- A command has one outcome.
use Rattle.std.proofs.Common.{◌≡◌, ◌≢◌, List, inl, inr, ap, ◌∙◌, sym, refl, arith, Option, None}
use Rattle.std.proofs.Common.{Some}
use Rattle.std.specs.Prelude.{Ok, Err, Result}
use Rattle.command_octets.specs.Laws.{OneBatchOutcome}
use Rattle.command_octets.specs.BatchRecord.{Batch}
use Rattle.command_octets.specs.BatchRefusalRecord.{BatchRefusal}
use Rattle.command_octets.specs.BatchRefusalRecord.TheVariants as batch
use Rattle.command_octets.specs.declared.commands.Command.{Command}
use Rattle.command_octets.specs.declared.commands.Command.TheVariants as command
use Rattle.set_reading.specs.RecordSetRecord.{RecordSet}
use Rattle.command_octets.specs.Hosted.{HostedZone}
use Rattle.config_model.specs.Applying.{Decides, Outcome}
use Rattle.config_model.specs.Batches.{ChangesIn, changed_zones}
use Rattle.config_model.specs.Configs.{Config, zone_with}
use Rattle.config_model.specs.Laws.{OneOutcome}
use Rattle.config_model.specs.Telling.{of_batch}
use Rattle.config_model.specs.declared.refusals.Refusal.TheVariants as refusal

module _ (law : OneBatchOutcome) where
  module _ (config : Config) (changes : Batch) (outcome other : Outcome)
      (known : outcome ≢ Err refusal.OutOfMemory) (known_too : other ≢ Err refusal.OutOfMemory)
    where
      -- a refusal of the batch that isn't want of memory
      not_memory : (answer : Outcome) → answer ≢ Err refusal.OutOfMemory → (why : BatchRefusal)
          → answer ≡ Err (of_batch why) → (told : Result (List RecordSet) BatchRefusal)
          → told ≡ Err why → told ≢ Err batch.OutOfMemory
      not_memory answer known why e told is wants =
          let same : why ≡ batch.OutOfMemory = grind (arith, is, wants) in
          known (e ∙ ap (λ w. Err (of_batch w)) same)

      one_change : (at : Option HostedZone) → ChangesIn config at changes outcome
          → ChangesIn config at changes other → outcome ≡ other
      one_change None e f = e ∙ sym f
      one_change (Some zone) (inl (why, real, p, e)) (inl (too, real_too, q, f)) =
          let one = law zone.sets zone.apex changes.changes (Err why) (Err too) p q
          (not_memory outcome known why e (Err why) refl)
          (not_memory other known_too too f (Err too) refl) in
          let same : why ≡ too = grind (arith, one) in
          e ∙ (ap (λ w. Err (of_batch w)) same ∙ sym f)
      one_change (Some zone) (inl (why, real, p, e)) (inr (sets, q, f)) =
          let one = law zone.sets zone.apex changes.changes (Err why) (Ok sets) p q
          (not_memory outcome known why e (Err why) refl) (λ w. grind (arith, w)) in
          absurd (grind (arith, one))
      one_change (Some zone) (inr (sets, p, e)) (inl (too, real_too, q, f)) =
          let one = law zone.sets zone.apex changes.changes (Ok sets) (Err too) p q
          (λ w. grind (arith, w)) (not_memory other known_too too f (Err too) refl) in
          absurd (grind (arith, one))
      one_change (Some zone) (inr (sets, p, e)) (inr (others, q, f)) =
          let one = law zone.sets zone.apex changes.changes (Ok sets) (Ok others) p q
          (λ w. grind (arith, w)) (λ w. grind (arith, w)) in
          let same : sets ≡ others = grind (arith, one) in
          e ∙ (ap (λ s. changed_zones config zone.id s) same ∙ sym f)

  decided : (config : Config) (given : Command) (outcome other : Outcome)
      → Decides config given outcome → Decides config given other
      → outcome ≢ Err refusal.OutOfMemory → other ≢ Err refusal.OutOfMemory → outcome ≡ other
  decided config (command.CreateZone name servers) outcome other e f known known_too = e ∙ sym f
  decided config (command.DeleteZone id) outcome other e f known known_too = e ∙ sym f
  decided config (command.Change changes) outcome other e f known known_too =
      one_change config changes outcome other known known_too
      (zone_with config.zones changes.zone) e f
  decided config (command.Health health) outcome other e f known known_too = e ∙ sym f
  decided config (command.Cidr cidr) outcome other e f known known_too = e ∙ sym f

  pub one_outcome : OneOutcome
  one_outcome config given outcome other (inl e) applies known known_too = absurd (known e)
  one_outcome config given outcome other (inr d) (inl e) known known_too = absurd (known_too e)
  one_outcome config given outcome other (inr d) (inr e) known known_too =
      decided config given outcome other d e known known_too
