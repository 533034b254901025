-- A drill over files that were just made.
use Rattle.std.proofs.Common.{◌≡◌, ◌∙◌, ◌⊎◌, ◌≤◌, inl, inr, ℕ, List, Option, None, Some, arith, refl, subst, sym}
use Rattle.std.specs.Prelude.{⊤}
use Rattle.config_model.specs.Configs.{Config, empty}
use Rattle.drill_run.specs.Counting.{Progress, HasProgress}
use Rattle.drill_run.specs.Drills.{healthy_in, summary, summary_of}
use Rattle.drill_run.specs.Leaving.{DrillLeaves, Ended, HasCause, IfUnwritten, IsStart, LinesLeave, MadeLeaves, OverLeaves, drilled_of, unopened}
use Rattle.drill_run.specs.declared.answers.Drilled.{Drilled}
use Rattle.drill_run.specs.declared.answers.Drilled.TheVariants as drilled
use Rattle.drill_run.specs.declared.counting.Tally.{Tally}
use Rattle.engine_model.specs.Engine.{Engine}
use Rattle.gate_journal.specs.Layout.{IsOpen}
use Rattle.octets.specs.Counts.{Rose}
use Rattle.r53_core.specs.Holding.{Holds}
use Rattle.r53_core.specs.Journaled.{State as Kept, config_of}
use Rattle.r53_core.specs.Stores.{State as Store, opened}
use Rattle.session_server.specs.Files.{FilesOpen}
use Rattle.store_model.specs.Laws.{NoStoreOrConfig, PairOpensToOneConfig, StandingPlace}
use Rattle.store_model.specs.Opening.{IsNoStore, OpensAs, OpensConfig}
use Rattle.whole_writing.specs.Output.{OutputOf}
use Rattle.whole_writing.specs.declared.output.Output.{Output}
use Rattle.whole_writing.specs.declared.output.Output.TheVariants as output
use Rattle.zone_journal.specs.Making.{store_over}
use Rattle.zone_journal.specs.Pairs.{BothRead}
use Rattle.zone_journal.specs.Standing.{StandsOn}
use Rattle.zone_journal.specs.declared.answers.OpenFault.{OpenFault}
use Rattle.zone_journal.specs.declared.answers.OpenFault.TheVariants as fault
use Rattle.zone_journal.specs.declared.answers.Side.{Side}

-- ---- the summary

-- what was counted of where a drill ends
pub summary_is : (n healthy : ℕ) (tally : Tally) (end : Progress) → healthy ≡ healthy_in end.engine
    → end.tally ≡ tally → summary_of n healthy tally ≡ summary n end
summary_is n healthy tally end count counted =
    subst (λ (h : ℕ). summary_of n healthy tally ≡ summary_of n h end.tally) count
    (subst (λ (t : Tally). summary_of n healthy t ≡ summary_of n healthy end.tally) counted refl)

pub written_unasked : (w : Output) (P : Type 0) → IfUnwritten (drilled_of w) P
written_unasked output.Whole P = tt
written_unasked output.Failed P = tt

pub written_cause : (w : Output) (a_old a_new b_old b_new out_old out_new : ℕ)
    → (w ≡ output.Failed → Rose out_old out_new)
    → HasCause (drilled_of w) a_old a_new b_old b_new out_old out_new
written_cause output.Whole a_old a_new b_old b_new out_old out_new rose = tt
written_cause output.Failed a_old a_new b_old b_new out_old out_new rose = rose refl

-- a cause that doesn't ask the disks
pub same_cause : (w : Output) (answer : Drilled) → answer ≡ drilled_of w
    → (a_old a_new b_old b_new out_old out_new : ℕ)
    → HasCause answer 0 0 0 0 out_old out_new
    → HasCause answer a_old a_new b_old b_new out_old out_new
same_cause output.Whole answer is a_old a_new b_old b_new out_old out_new cause =
    subst (λ (d : Drilled). HasCause d a_old a_new b_old b_new out_old out_new) (sym is) tt
same_cause output.Failed answer is a_old a_new b_old b_new out_old out_new cause =
    subst (λ (d : Drilled). HasCause d a_old a_new b_old b_new out_old out_new) (sym is)
    (subst (λ (d : Drilled). HasCause d 0 0 0 0 out_old out_new) is cause)

pub summed : {D : Type 0} (images : D → List ℕ → Type 0) (a b : D) (n : ℕ) (start : Engine)
    (before out : Option (List ℕ)) (w : Output)
    → Ended w images a b n start before out → LinesLeave (drilled_of w) images a b n start before out
summed images a b n start before out output.Whole ended = ended
summed images a b n start before out output.Failed ended = ended

-- ---- the files

some_same : {X : Type 0} {x y : X} → Some x ≡ Some y → x ≡ y
some_same e = cc

-- what files open to in which a store is held
opens_as : {D : Type 0} (reading : D → Option (List ℕ)) (kept : Kept) (a b : D) (x y : List ℕ)
    → (leaves : BothRead reading a b (Holds kept)) → reading a ≡ Some x → reading b ≡ Some y
    → OpensAs x y kept.journal.generation leaves.has.snapshot leaves.has.entries
    (opened kept).config
opens_as reading kept a b x y leaves x_is y_is =
    subst (λ (v : List ℕ). OpensAs x v kept.journal.generation leaves.has.snapshot
    leaves.has.entries (opened kept).config) (some_same (sym leaves.b_reads ∙ y_is))
    (subst (λ (u : List ℕ). OpensAs u leaves.y kept.journal.generation leaves.has.snapshot
    leaves.has.entries (opened kept).config) (some_same (sym leaves.a_reads ∙ x_is))
    leaves.has.opens)

none_planned : (kept : Kept) → kept.journal.plan ≡ None → (opened kept).journal.plan ≡ None
none_planned kept idle = cc

-- a drill begins where its store was opened
pub is_start : {D : Type 0} (reading : D → Option (List ℕ)) (images : D → List ℕ → Type 0)
    → StandingPlace reading images → PairOpensToOneConfig → (kept : Kept) (a b : D) (x y : List ℕ)
    → StandsOn reading images kept.journal a b → BothRead reading a b (Holds kept)
    → reading a ≡ Some x → reading b ≡ Some y → kept.journal.plan ≡ None → OpensConfig x y empty
    → IsStart x y (opened kept)
is_start reading images law one kept a b x y stands leaves x_is y_is idle made =
    let opens = opens_as reading kept a b x y leaves x_is y_is in
    record {
      config = one x y (opened kept).config empty (record {
        generation = kept.journal.generation;
        snapshot = leaves.has.snapshot;
        entries = leaves.has.entries;
        opens = opens;
      }) made;
      shape = (law kept.journal a b x y kept.journal.generation leaves.has.snapshot
          leaves.has.entries stands x_is y_is opens.opens).3;
      plan = none_planned kept idle;
      reports = refl;
    }

-- ---- by the answer

-- P of the side and the place at which the files are told to be no store
abbrev pub fault_told : OpenFault → (P : Side → ℕ → Type 0) → Type 0
fault_told (fault.NotAStore side place) P = P side place
fault_told fault.DiskFault P = ⊤
fault_told fault.OutOfMemory P = ⊤

module _ {D : Type 0} (images : D → List ℕ → Type 0) (a b : D) (n : ℕ) (x y : List ℕ)
    (before out : Option (List ℕ)) where
  pub lines_left : (start : Engine) → IsStart x y start → (answer : Drilled)
      → LinesLeave answer images a b n start before out
      → OverLeaves answer images a b n x y before out
  lines_left start is drilled.Written leaves = (start, is, leaves)
  lines_left start is (drilled.AlreadyAStore side) leaves = absurd leaves
  lines_left start is drilled.MakingFault leaves = absurd leaves
  lines_left start is (drilled.NotAStore side place) leaves = absurd leaves
  lines_left start is drilled.OpeningFault leaves = absurd leaves
  lines_left start is drilled.OutOfMemory leaves = absurd leaves
  lines_left start is drilled.DiskFault leaves = (start, is, leaves)
  lines_left start is drilled.WriteFault leaves = (start, is, leaves)

  -- the place that is told where the files are no store
  abbrev pub told_place : OpenFault → Type 0
  told_place (fault.NotAStore side place) = IsNoStore x y side place
  told_place fault.DiskFault = ⊤
  told_place fault.OutOfMemory = ⊤

  pub place_told : (f : OpenFault) → fault_told f (IsNoStore x y) → told_place f
  place_told (fault.NotAStore side place) is = is
  place_told fault.DiskFault is = tt
  place_told fault.OutOfMemory is = tt

  pub not_opened : NoStoreOrConfig → OpensConfig x y empty
      → FilesOpen images a b empty → (f : OpenFault) → told_place f
      → OverLeaves (unopened f) images a b n x y before out
  not_opened law made opens (fault.NotAStore side place) told =
      law x y empty side place made told
  not_opened law made opens fault.DiskFault told = opens
  not_opened law made opens fault.OutOfMemory told = opens

pub unopened_unasked : (f : OpenFault) (P : Type 0) → P → IfUnwritten (unopened f) P
unopened_unasked (fault.NotAStore side place) P p = p
unopened_unasked fault.DiskFault P p = p
unopened_unasked fault.OutOfMemory P p = p

pub unopened_cause : (f : OpenFault) (a_old a_new b_old b_new out_old out_new : ℕ)
    → (f ≡ fault.DiskFault → Rose a_old a_new ⊎ Rose b_old b_new)
    → HasCause (unopened f) a_old a_new b_old b_new out_old out_new
unopened_cause (fault.NotAStore side place) a_old a_new b_old b_new out_old out_new rose = tt
unopened_cause fault.DiskFault a_old a_new b_old b_new out_old out_new rose = rose refl
unopened_cause fault.OutOfMemory a_old a_new b_old b_new out_old out_new rose = tt

module _ {D : Type 0} (reading : D → Option (List ℕ)) (images : D → List ℕ → Type 0)
    (moment : D → ℕ) (images_since : D → ℕ → List ℕ → Type 0) (a_old a_new b_old b_new : D) (n : ℕ)
    (x y : List ℕ) (before out : Option (List ℕ)) where
  pub made_left : (IsOpen x → ⊥) → (IsOpen y → ⊥) → (answer : Drilled)
      → OverLeaves answer images a_new b_new n (store_over x) y before out
      → DrillLeaves answer reading images moment images_since a_old a_new b_old b_new n x y before out
  made_left shut shut_too drilled.Written leaves = (shut, shut_too, leaves)
  made_left shut shut_too (drilled.AlreadyAStore side) leaves = absurd leaves
  made_left shut shut_too drilled.MakingFault leaves = absurd leaves
  made_left shut shut_too (drilled.NotAStore side place) leaves = (shut, shut_too, leaves)
  made_left shut shut_too drilled.OpeningFault leaves = (shut, shut_too, leaves)
  made_left shut shut_too drilled.OutOfMemory leaves = (shut, shut_too, leaves)
  made_left shut shut_too drilled.DiskFault leaves = (shut, shut_too, leaves)
  made_left shut shut_too drilled.WriteFault leaves = (shut, shut_too, leaves)

-- ---- causes

pub rose_later : (old mid new : ℕ) → old ≤ mid → Rose mid new → Rose old new
rose_later old mid new le rose = omega (arith, le, rose)

pub either_later : (a_old a_mid a_new b_old b_mid b_new : ℕ) → a_old ≤ a_mid → b_old ≤ b_mid
    → Rose a_mid a_new ⊎ Rose b_mid b_new → Rose a_old a_new ⊎ Rose b_old b_new
either_later a_old a_mid a_new b_old b_mid b_new a_le b_le (inl rose) =
    inl (rose_later a_old a_mid a_new a_le rose)
either_later a_old a_mid a_new b_old b_mid b_new a_le b_le (inr rose) =
    inr (rose_later b_old b_mid b_new b_le rose)

pub cause_later : (answer : Drilled) (a_old a_mid a_new b_old b_mid b_new out_old out_new : ℕ)
    → a_old ≤ a_mid → b_old ≤ b_mid
    → HasCause answer a_mid a_new b_mid b_new out_old out_new
    → HasCause answer a_old a_new b_old b_new out_old out_new
cause_later drilled.Written a_old a_mid a_new b_old b_mid b_new out_old out_new a_le b_le cause = tt
cause_later (drilled.AlreadyAStore side) a_old a_mid a_new b_old b_mid b_new out_old out_new a_le
    b_le cause = tt
cause_later drilled.MakingFault a_old a_mid a_new b_old b_mid b_new out_old out_new a_le b_le cause =
    either_later a_old a_mid a_new b_old b_mid b_new a_le b_le cause
cause_later (drilled.NotAStore side place) a_old a_mid a_new b_old b_mid b_new out_old out_new a_le
    b_le cause = tt
cause_later drilled.OpeningFault a_old a_mid a_new b_old b_mid b_new out_old out_new a_le b_le cause =
    either_later a_old a_mid a_new b_old b_mid b_new a_le b_le cause
cause_later drilled.OutOfMemory a_old a_mid a_new b_old b_mid b_new out_old out_new a_le b_le cause =
    tt
cause_later drilled.DiskFault a_old a_mid a_new b_old b_mid b_new out_old out_new a_le b_le cause =
    either_later a_old a_mid a_new b_old b_mid b_new a_le b_le cause
cause_later drilled.WriteFault a_old a_mid a_new b_old b_mid b_new out_old out_new a_le b_le cause =
    cause
