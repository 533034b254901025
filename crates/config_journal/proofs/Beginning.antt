-- A compaction that begins, and what all its pieces come to.
use Rattle.std.proofs.Common.{◌≡◌, ◌≢◌, ◌<◌, ◌≤◌, ℕ, ◌+◌, ◌-◌, ◌^◌, List, Option, None, Some, length, ap, ◌∙◌, sym, refl, subst, arith}
use Rattle.std.specs.Prelude.{IsSome, false, is_some, option_map}
use Rattle.config_journal.proofs.Pieces.{InProgress, in_progress}
use Rattle.config_journal.proofs.Told.{Told, holds_of}
use Rattle.config_journal.specs.Compacting.{CompactGives, HasGoneOn, IsCompacted, PiecesGive}
use Rattle.config_journal.specs.Compacting.{UnlessFaulty}
use Rattle.config_journal.specs.Holding.{Holds}
use Rattle.config_journal.specs.Journals.{journal_of, plan_of}
use Rattle.config_journal.specs.States.{State, config_of}
use Rattle.r53_state.specs.Configs.{Config}
use Rattle.r53_state.specs.Sound.{Sound}
use Rattle.engine_model.specs.Compacting.{IsLastGeneration, after_pieces, begun, compacted as pieces_of}
use Rattle.engine_model.specs.Compacting.{with_plan as with_its}
use Rattle.engine_model.specs.Engine.{Journal as Its, Plan as ItsPlan}
use Rattle.engine_model.specs.declared.answers.Compacted.{Compacted}
use Rattle.engine_model.specs.declared.answers.Compacted.TheVariants as compacted
use Rattle.file_building.specs.Building.{Plan}
use Rattle.gate_journal.specs.Layout.{front}
use Rattle.r53_state.specs.States.{config_in}
use Rattle.r53_state.specs.Octets.{snapshot}
use Rattle.store_model.specs.Laws.{PlanBegins, StandingPlace}
use Rattle.store_model.specs.Leaving.{IsPlanFor}
use Rattle.zone_journal.specs.Compacting.{Begins, with_plan}
use Rattle.zone_journal.specs.Pairs.{BothRead}
use Rattle.zone_journal.specs.Standing.{State as Journal, StandsOn, progress_of, progress_with}
use Rattle.zone_journal.specs.declared.answers.Progress.{Progress}
use Rattle.zone_journal.specs.declared.answers.Begun.TheVariants as begins

-- ---- a compaction that is in progress

module _ (old new : State) (some : IsSome old.journal.plan) (pieces : ℕ) where
  its : InProgress old.journal.plan
  its = in_progress old.journal.plan some

  is : (journal_of old.journal).plan ≡ Some (plan_of old.journal its.its)
  is = ap (option_map (plan_of old.journal)) its.is

  goes_on : IsLastGeneration (journal_of old.journal) → ⊥
  goes_on last = let none : Path (Option ItsPlan) None (Some (plan_of old.journal its.its))
      = sym last.0 ∙ is in absurd (Prim.cc)

  is_going : new.config ≡ old.config → (outcome : Compacted)
      → HasGoneOn outcome old.journal pieces new.journal → IsCompacted outcome old pieces new
  is_going config outcome gone = record {
    goes_on = goes_on;
    config = config;
    journal = gone.journal
        ∙ ap (λ (o : Option ItsPlan). after_pieces pieces (journal_of old.journal) o) is
        ∙ sym (ap (λ (o : Option ItsPlan). pieces_of (config_of old) pieces
        (journal_of old.journal) o) is);
    told = gone.told;
  }

  pub went_on : new.config ≡ old.config → (outcome : Compacted)
      → PiecesGive outcome old.journal pieces new.journal → CompactGives outcome old pieces new
  went_on config (compacted.Left left) gives = is_going config (compacted.Left left) gives.0
  went_on config (compacted.Done generation) gives =
      is_going config (compacted.Done generation) gives
  went_on config compacted.GenerationsEnded never = absurd never
  went_on config compacted.OutOfMemory never = absurd never
  went_on config compacted.DiskFault dropped = (goes_on, config, dropped)

-- none is in progress of which nothing is told
pub no_progress : (v : Journal) (told : Option Progress) → told ≡ progress_of v
    → is_some told ≡ false → v.plan ≡ None
no_progress v told is none = by_plan v.plan refl
  where
    by_plan : (plan : Option Plan) → v.plan ≡ plan → v.plan ≡ None
    by_plan None same = same
    by_plan (Some p) same =
        let some : is_some (progress_with v (Some p)) ≡ false
        = subst (λ (o : Option Plan). is_some (progress_with v o) ≡ false) same
        (subst (λ (o : Option Progress). is_some o ≡ false) is none) in
        absurd (Prim.cc)

-- ---- one that begins

-- its plan
abbrev first : Config → (at : ℕ) → Plan
first config at = record { snapshot = snapshot config; from = at; next = 0 }

module _ (old mid : State) (none : old.journal.plan ≡ None) (config : mid.config ≡ old.config)
    (begins : Begins begins.Begun (snapshot (config_of old)) old.journal mid.journal) where
  moved : mid.journal ≡ with_plan old.journal (first (config_of old) old.journal.at)
  moved = begins.1

  pub side_stays : mid.journal.side ≡ old.journal.side
  side_stays = ap (λ (j : Journal). j.side) moved

  pub in_progress_now : IsSome mid.journal.plan
  in_progress_now = subst (λ (j : Journal). IsSome j.plan) (sym moved) refl

  config_same : config_of mid ≡ config_of old
  config_same = ap config_in config

  pub config_still : config_of mid ≡ config_of old
  config_still = config_same

  -- the files hold the same
  pub holds_begun : Sound (config_of old) → PlanBegins → {D : Type 0}
      → (reading : D → Option (List ℕ)) → (images : D → List ℕ → Type 0)
      → StandingPlace reading images → (a b : D) → StandsOn reading images old.journal a b
      → BothRead reading a b (Holds old) → BothRead reading a b (Holds mid)
  holds_begun sound law reading images place a b stands held = record {
    x = held.x;
    y = held.y;
    a_reads = held.a_reads;
    b_reads = held.b_reads;
    has = holds_of mid (with_plan old.journal (first (config_of old) old.journal.at))
        (config_of old) moved config_same held.x held.y (record {
          octets = held.has.snapshot;
          entries = held.has.entries;
          opens = held.has.opens;
          plan = λ p same. planned p same;
        });
  }
    where
      there : old.journal.at ≡ length (front old.journal.generation held.has.snapshot held.has.entries)
      there = (place old.journal a b held.x held.y old.journal.generation held.has.snapshot
          held.has.entries stands held.a_reads held.b_reads held.has.opens.opens).1

      planned : (p : Plan)
          → Some (first (config_of old) old.journal.at) ≡ Some p
          → IsPlanFor p.snapshot p.from old.journal.generation held.has.snapshot
          held.has.entries (config_of old)
      planned p same =
          let one : first (config_of old) old.journal.at ≡ p = cc in
          subst (λ (q : Plan). IsPlanFor q.snapshot q.from old.journal.generation
          held.has.snapshot held.has.entries (config_of old)) one
          (law (config_of old) old.journal.at old.journal.generation held.has.snapshot
          held.has.entries sound there)

  -- the journal, as the definitions have it
  no_more : (n at : ℕ) → 21 + n + (at - at) ≡ 21 + n
  no_more n at = omega arith

  journal_begun : journal_of mid.journal
      ≡ with_its (journal_of old.journal) (begun (config_of old))
  journal_begun = ap journal_of moved
      ∙ ap (λ (n : ℕ). with_its (journal_of old.journal) (record { length = n; next = 0 }))
      (no_more (length (snapshot (config_of old))) old.journal.at)

  none_told : (journal_of old.journal).plan ≡ None
  none_told = ap (option_map (plan_of old.journal)) none

  module _ (new : State) (pieces : ℕ) where
    not_last : IsLastGeneration (journal_of old.journal) → ⊥
    not_last last = absurd (omega (arith, last.1, begins.0))

    has_gone : new.config ≡ mid.config → (outcome : Compacted)
        → HasGoneOn outcome mid.journal pieces new.journal → IsCompacted outcome old pieces new
    has_gone stays outcome gone = record {
      goes_on = not_last;
      config = stays ∙ config;
      journal = gone.journal
          ∙ ap (λ (j : Its). after_pieces pieces j j.plan) journal_begun
          ∙ sym (ap (λ (o : Option ItsPlan). pieces_of (config_of old) pieces
          (journal_of old.journal) o) none_told);
      told = gone.told;
    }

    pub began : new.config ≡ mid.config → (outcome : Compacted)
        → PiecesGive outcome mid.journal pieces new.journal → CompactGives outcome old pieces new
    began stays (compacted.Left left) gives = has_gone stays (compacted.Left left) gives.0
    began stays (compacted.Done generation) gives =
        has_gone stays (compacted.Done generation) gives
    began stays compacted.GenerationsEnded never = absurd never
    began stays compacted.OutOfMemory never = absurd never
    began stays compacted.DiskFault dropped = (not_last, stays ∙ config, dropped)
