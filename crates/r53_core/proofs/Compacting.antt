-- What pieces of a compaction make of a store.
use Rattle.std.proofs.Common.{◌≡◌, ℕ, Option, None, ap, ◌∙◌, inl, inr, refl, sym, subst}
use Rattle.std.specs.Prelude.{option_map}
use Rattle.config_opening.specs.Compacting.{CompactGives, IsCompacted}
use Rattle.config_opening.specs.Journals.{journal_of, plan_of}
use Rattle.config_opening.specs.States.{State as Kept, config_of}
use Rattle.sound_configs.specs.Configs.{Config}
use Rattle.sound_configs.specs.Compacting.{IsLastGeneration, compacted as pieces_of, told_of}
use Rattle.sound_configs.specs.Engine.{Engine, Journal}
use Rattle.sound_configs.specs.CompactedRecord.{Compacted}
use Rattle.sound_configs.specs.CompactedRecord.TheVariants as compacted
use Rattle.sound_configs.specs.Index.{Index, StandsFor as HasHealth}
use Rattle.r53_core.specs.Stores.{CompactionGives, StandsFor, State}
use Rattle.config_opening.specs.Kept.{State as Config_kept, config_in}

module _ (engine : Engine) (old new : Kept) (index : Index)
    (stands : StandsFor engine (record { kept = old; index = index })) (pieces : ℕ) where
  abbrev pub store : State
  store = record { kept = new; index = index }

  -- it stands for the configuration and the reports, with a journal
  stands_with : new.config ≡ old.config → (journal : Journal) → journal ≡ journal_of new.journal
      → StandsFor (record engine { journal = journal }) store
  stands_with config journal told = record {
    config = stands.config ∙ sym (ap config_in config);
    health = subst (λ (c : Config_kept). HasHealth c.table.zones c.checks.checks engine.reports index)
        (sym config) stands.health;
    journal = told;
  }

  stands_still : new ≡ old → StandsFor engine store
  stands_still same = subst (λ (k : Kept). StandsFor engine (record { kept = k; index = index }))
      (sym same) stands

  stepped : (outcome : Compacted) → IsCompacted outcome old pieces new
      → CompactionGives engine pieces outcome store
  stepped outcome is =
      let journal = pieces_of engine.config pieces engine.journal engine.journal.plan in
      let told : journal ≡ journal_of new.journal
      = ap (λ (c : Config). pieces_of c pieces engine.journal engine.journal.plan) stands.config
      ∙ ap (λ (j : Journal). pieces_of (config_of old) pieces j j.plan) stands.journal
      ∙ sym is.journal in
      inr (inr (
        record engine { journal = journal },
        inr (
          (λ last. is.goes_on (subst (λ (j : Journal). IsLastGeneration j) stands.journal last)),
          refl,
          is.told ∙ ap (λ (j : Journal). told_of j j.plan) (sym told),
        ),
        stands_with is.config journal told,
      ))

  pub compaction : (outcome : Compacted) → CompactGives outcome old pieces new
      → CompactionGives engine pieces outcome store
  compaction (compacted.Left left) is = stepped (compacted.Left left) is
  compaction (compacted.Done generation) is = stepped (compacted.Done generation) is
  compaction compacted.GenerationsEnded (last, same) = inr (inr (
    engine,
    inl (
      subst (λ (j : Journal). IsLastGeneration j) (sym stands.journal) last,
      refl,
      refl,
    ),
    stands_still same,
  ))
  compaction compacted.OutOfMemory (none, same) = inl (
    refl,
    ap (λ (j : Journal). j.plan) stands.journal ∙ ap (option_map (plan_of old.journal)) none,
    stands_still same,
  )
  compaction compacted.DiskFault (more, config, dropped) = inr (inl (
    refl,
    λ last. more (subst (λ (j : Journal). IsLastGeneration j) stands.journal last),
    (
      journal_of new.journal,
      ap (option_map (plan_of new.journal)) dropped,
      stands_with config (journal_of new.journal) refl,
    ),
  ))
