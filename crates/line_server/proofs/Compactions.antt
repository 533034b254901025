-- What comes of pieces of a compaction.
use Rattle.std.proofs.Common.{◌≡◌, ◌⊎◌, inl, inr, ℕ, ◌+◌, ◌^◌, List, Option, Some, None, ◌∙◌, sym, refl, subst}
use Rattle.std.proofs.lemmas.Bool.{cases_eq}
use Rattle.reply_sending.specs.Configs.{Config}
use Rattle.serve_turns.specs.Journaled.{config_of}
use Rattle.serve_turns.specs.Compacting.{CompactionSteps, IsLastGeneration}
use Rattle.serve_turns.specs.Compacting.{compacted as after_all, told_of}
use Rattle.serve_turns.specs.Engine.{Engine, Journal, Plan}
use Rattle.serve_turns.specs.CompactedRecord.{Compacted}
use Rattle.serve_turns.specs.CompactedRecord.TheVariants as compacted
use Rattle.line_server.proofs.Commands.{written}
use Rattle.line_server.specs.Asking.{CompactionAsksDisk}
use Rattle.line_server.specs.Leaving.{StepOrNone, RepliesOr, Halted, taken_of}
use Rattle.line_server.specs.Replying.{Compacts}
use Rattle.serve_turns.specs.Stores.{CompactionGives, StandsFor, State as Store}
use Rattle.reply_sending.specs.Outcomes.{text_of}
use Rattle.serve_turns.specs.Replies.{compact_outcome, memory_text}
use Rattle.serve_turns.specs.Opening.{OpensConfig}
use Rattle.whole_writing.specs.Output.{OutputOf}
use Rattle.whole_writing.specs.declared.output.Output.{Output}

module _ (engine : Engine) (pieces : ℕ) (came : Compacted) (new : Store) where
  pub made : (Same : Type 0) → (came ≡ compacted.DiskFault → ⊥)
      → ((came ≡ compacted.GenerationsEnded) ⊎ (came ≡ compacted.OutOfMemory) → Same)
      → CompactionGives engine pieces came new
      → (o : Output) (held : List ℕ) (out : Option (List ℕ))
      → OutputOf held out o (text_of (compact_outcome came))
      → RepliesOr ((engine.journal.plan ≡ None) × Same) (taken_of o) (Compacts pieces) engine
      (λ after. StandsFor after new) held out
  made Same whole where_none (inl (is, none, stands)) o held out told =
      inl (
        (none, where_none (inr is)),
        written o held out memory_text
            (subst (λ (r : Compacted). OutputOf held out o (text_of (compact_outcome r))) is told),
        stands,
      )
  made Same whole where_none (inr (inl (is, more, dropped))) o held out told = absurd (whole is)
  made Same whole where_none (inr (inr (after, steps, stands))) o held out told =
      inr (
        after,
        text_of (compact_outcome came),
        (came, steps, refl),
        stands,
        written o held out (text_of (compact_outcome came)) told,
      )

  -- what the store stands for, whatever is told of the reply
  pub stood : CompactionGives engine pieces came new
      → (after : Engine) × StepOrNone (Compacts pieces) engine after × StandsFor after new
  stood (inl (is, none, stands)) = (engine, inl (engine.journal, refl), stands)
  stood (inr (inl (is, more, (journal, dropped, stands)))) =
      (record engine { journal = journal }, inl (journal, refl), stands)
  stood (inr (inr (after, steps, stands))) =
      (after, inr (text_of (compact_outcome came), (came, steps, refl)), stands)

-- ---- where a disk failed

no_told : {X : Type 0} (journal : Journal) (plan : Option Plan)
    → compacted.DiskFault ≡ told_of journal plan → X
no_told journal None is = absurd (Prim.cc)
no_told journal (Some plan) is = absurd (Prim.cc)

-- it stands for what it stood for, with another journal
pub at_fault : (engine : Engine) (pieces : ℕ) (new : Store)
    → CompactionGives engine pieces compacted.DiskFault new
    → (journal : Journal) × StandsFor (record engine { journal = journal }) new
at_fault engine pieces new (inl (is, none, stands)) = absurd (Prim.cc)
at_fault engine pieces new (inr (inl (is, more, (journal, dropped, stands)))) = (journal, stands)
at_fault engine pieces new (inr (inr (after, inl (last, is, same), stands))) = absurd (Prim.cc)
at_fault engine pieces new (inr (inr (after, inr (more, same, is), stands))) =
    no_told after.journal after.journal.plan is

-- it was asked to make a piece
pub asked : (engine : Engine) (pieces : ℕ) (new : Store)
    → CompactionGives engine pieces compacted.DiskFault new → CompactionAsksDisk engine
asked engine pieces new (inl (is, none, stands)) = absurd (Prim.cc)
asked engine pieces new (inr (inl (is, more, dropped))) = more
asked engine pieces new (inr (inr (after, inl (last, is, same), stands))) = absurd (Prim.cc)
asked engine pieces new (inr (inr (after, inr (more, same, is), stands))) = more

decided : (journal : Journal) → IsLastGeneration journal ⊎ (IsLastGeneration journal → ⊥)
decided journal = by_plan journal.plan refl
  where
    by_plan : (plan : Option Plan) → journal.plan ≡ plan
        → IsLastGeneration journal ⊎ (IsLastGeneration journal → ⊥)
    by_plan None none = elim (cases_eq (journal.generation + 1) (2 ^ 64)) [
      | inl last ↦ inl (none, last)
      | inr more ↦ inr (λ last. more last.1)
    ]
    by_plan (Some plan) some = inr (λ last. apart (sym last.0 ∙ some))
      where
        apart : {plan : Plan} → ◌≡◌ {A = Option Plan} None (Some plan) → ⊥
        apart e = absurd (Prim.cc)

-- a step that it would have made, which leaves the configuration
pub record Step (engine : Engine) (pieces : ℕ) : Type 0 where
  pub after : Engine
  pub came : Compacted
  pub steps : CompactionSteps engine pieces came after
  pub config : after.config ≡ engine.config

pub step : (engine : Engine) (pieces : ℕ) → Step engine pieces
step engine pieces = elim (decided engine.journal) [
  | inl last ↦ record {
    after = engine;
    came = compacted.GenerationsEnded;
    steps = inl (last, refl, refl);
    config = refl;
  }
  | inr more ↦
      let journal = after_all engine.config pieces engine.journal engine.journal.plan in
      record {
        after = record engine { journal = journal };
        came = told_of journal journal.plan;
        steps = inr (more, refl, refl);
        config = refl;
      }
]

pub torn : {D : Type 0} (images : D → List ℕ → Type 0) (a b : D) (engine : Engine) (pieces : ℕ)
    (old : Store) → StandsFor engine old
    → ((x y : List ℕ) → images a x → images b y → OpensConfig x y (config_of old.kept))
    → Halted images a b (Compacts pieces) engine
torn images a b engine pieces old stands opens =
    let its = step engine pieces in (
      its.after,
      text_of (compact_outcome its.came),
      (its.came, its.steps, refl),
      λ x y of_a of_b. inl (subst (λ (c : Config). OpensConfig x y c) (sym stands.config)
          (opens x y of_a of_b)),
    )
