-- Pieces of a compaction, one after another.
use Rattle.std.proofs.Common.{◌≡◌, ◌≢◌, ◌≤◌, ◌⊎◌, inl, inr, ⊎_elim, ℕ, zero, suc, ◌+◌, List, Option, None, Some, ap, ◌∙◌, sym, refl, subst, arith}
use Rattle.std.specs.Prelude.{IsSome, option_map}
use Rattle.config_journal.specs.Compacting.{HasGoneOn, PiecesGive, UnlessFaulty}
use Rattle.config_journal.specs.Holding.{Holds}
use Rattle.config_journal.specs.Journals.{journal_of}
use Rattle.config_journal.specs.States.{State, config_of}
use Rattle.r53_state.specs.Configs.{Config}
use Rattle.engine_model.specs.Compacting.{after_piece, after_pieces, told_of}
use Rattle.engine_model.specs.Engine.{Journal as Told, Plan as ToldPlan}
use Rattle.engine_model.specs.declared.answers.Compacted.{Compacted}
use Rattle.engine_model.specs.declared.answers.Compacted.TheVariants as compacted
use Rattle.octets.specs.Counts.{Rose}
use Rattle.r53_disk.proofs.Moments.{rests_here, rests_joined}
use Rattle.r53_disk.specs.Disk.{Rests}
use Rattle.r53_state.specs.States.{State as Kept, config_in}
use Rattle.store_model.specs.Laws.{PiecesFollow, StandingOpens}
use Rattle.store_model.specs.Opening.{OpensConfig}
use Rattle.zone_journal.specs.Pairs.{EachPair, BothRead, active_of}
use Rattle.zone_journal.specs.Standing.{State as Journal, StandsOn}
use Rattle.zone_journal.specs.declared.answers.Side.{Side}

-- ---- pieces and more of them

ended : (pieces : ℕ) (journal : Told) → after_pieces pieces journal None ≡ journal
ended zero journal = refl
ended (suc pieces) journal = refl

pub and_more : (pieces more : ℕ) (journal : Told) (plan : Option ToldPlan) → journal.plan ≡ plan
    → after_pieces (pieces + more) journal plan
    ≡ after_pieces more (after_pieces pieces journal plan)
    (after_pieces pieces journal plan).plan
and_more zero more journal plan same =
    let none : 0 + more ≡ more = omega arith in
    ap (λ n. after_pieces n journal plan) none
    ∙ ap (λ (o : Option ToldPlan). after_pieces more journal o) (sym same)
and_more (suc pieces) more journal None same =
    ended (suc pieces + more) journal
    ∙ sym (ap (λ (o : Option ToldPlan). after_pieces more journal o) same ∙ ended more journal)
and_more (suc pieces) more journal (Some plan) same =
    let one : suc pieces + more ≡ suc (pieces + more) = omega arith in
    ap (λ n. after_pieces n journal (Some plan)) one
    ∙ and_more pieces more (after_piece journal plan) (after_piece journal plan).plan refl

module _ (start now next : Journal) (made : ℕ)
    (so_far : journal_of now
    ≡ after_pieces made (journal_of start) (journal_of start).plan) where
  -- one more
  one_more : (outcome : Compacted) → HasGoneOn outcome now 1 next
      → HasGoneOn outcome start (made + 1) next
  one_more outcome piece = record {
    journal = piece.journal
        ∙ ap (λ (j : Told). after_pieces 1 j j.plan) so_far
        ∙ sym (and_more made 1 (journal_of start) (journal_of start).plan refl);
    told = piece.told;
  }

  pub gives_more : now.side ≡ start.side → (outcome : Compacted) → PiecesGive outcome now 1 next
      → PiecesGive outcome start (made + 1) next
  gives_more side (compacted.Left left) (gone, some, same) =
      (one_more (compacted.Left left) gone, some, same ∙ side)
  gives_more side (compacted.Done generation) gone = one_more (compacted.Done generation) gone
  gives_more side compacted.GenerationsEnded never = never
  gives_more side compacted.OutOfMemory never = never
  gives_more side compacted.DiskFault dropped = dropped

-- nothing is in progress where an end is told
no_plan : (generation : ℕ) (journal : Told) (plan : Option ToldPlan)
    → compacted.Done generation ≡ told_of journal plan → plan ≡ None
no_plan generation journal None same = refl
no_plan generation journal (Some plan) same = absurd (Prim.cc)

-- fewer pieces than were asked for, where it ended
pub gives_all : (start next : Journal) (made more : ℕ) (outcome : Compacted)
    → ((left : ℕ) → outcome ≢ compacted.Left left) → PiecesGive outcome start made next
    → PiecesGive outcome start (made + more) next
gives_all start next made more (compacted.Left left) other gives = absurd (other left refl)
gives_all start next made more (compacted.Done generation) other gone =
    let none = no_plan generation (journal_of next) (journal_of next).plan gone.told in
    record {
      journal = gone.journal
          ∙ sym (and_more made more (journal_of start) (journal_of start).plan refl
          ∙ ap (λ (j : Told). after_pieces more j j.plan) (sym gone.journal)
          ∙ ap (λ (o : Option ToldPlan). after_pieces more (journal_of next) o) none
          ∙ ended more (journal_of next)
          ∙ gone.journal);
      told = gone.told;
    }
gives_all start next made more compacted.GenerationsEnded other never = never
gives_all start next made more compacted.OutOfMemory other never = never
gives_all start next made more compacted.DiskFault other dropped = dropped

-- ---- what they leave

module _ {D : Type 0} (reading : D → Option (List ℕ)) (images : D → List ℕ → Type 0)
    (moment : D → ℕ) (images_since : D → ℕ → List ℕ → Type 0) (faults : D → ℕ)
    (start : State) (a_old b_old : D) where
  abbrev pub Rested : (side : Side) → (a b c d : D) → Type 0
  Rested side a b c d =
      Rests reading images moment images_since (active_of side a b) (active_of side c d)

  abbrev pub Opens : (a b c d : D) → Config → Type 0
  Opens a b c d config =
      EachPair moment images_since a c b d (λ x y. OpensConfig x y config)

  -- So many pieces were made, and octets are left.
  pub record Going (now : State) (a b : D) (made : ℕ) : Type 0 where
    pub config : now.config ≡ start.config
    pub journal : journal_of now.journal
        ≡ after_pieces made (journal_of start.journal) (journal_of start.journal).plan
    pub in_progress : IsSome now.journal.plan
    pub side : now.journal.side ≡ start.journal.side
    pub stands : StandsOn reading images now.journal a b
    pub holds : BothRead reading a_old b_old (Holds start) → BothRead reading a b (Holds now)
    pub any_moment : BothRead reading a_old b_old (Holds start)
        → Opens a_old b_old a b (config_of start)
    pub rests : Rested start.journal.side a_old b_old a b
    pub a_counts : faults a_old ≤ faults a
    pub b_counts : faults b_old ≤ faults b

  -- each pair of images at the beginning
  pub opens_here : StandingOpens reading images
      → ((disk : D) (c : List ℕ) → images_since disk (moment disk) c → images disk c)
      → StandsOn reading images start.journal a_old b_old
      → BothRead reading a_old b_old (Holds start) → Opens a_old b_old a_old b_old (config_of start)
  opens_here law only_now stands held = record {
    a_later = omega arith;
    b_later = omega arith;
    each = λ x y of_a of_b. record {
      generation = start.journal.generation;
      snapshot = held.has.snapshot;
      entries = held.has.entries;
      opens = law start.journal a_old b_old held.x held.y start.journal.generation
          held.has.snapshot held.has.entries (config_of start) stands held.a_reads held.b_reads
          held.has.opens x y (only_now a_old x of_a) (only_now b_old y of_b);
    };
    from_a = λ t x y le of_a of_b. inl of_a;
    from_b = λ t x y le of_a of_b. inl of_b;
  }

  pub at_start : StandingOpens reading images
      → ((disk : D) (c : List ℕ) → images_since disk (moment disk) c → images disk c)
      → StandsOn reading images start.journal a_old b_old → IsSome start.journal.plan
      → Going start a_old b_old 0
  at_start law only_now stands some = record {
    config = refl;
    journal = refl;
    in_progress = some;
    side = refl;
    stands = stands;
    holds = λ held. held;
    any_moment = opens_here law only_now stands;
    rests = rests_here reading images moment images_since
        (active_of start.journal.side a_old b_old);
    a_counts = omega arith;
    b_counts = omega arith;
  }

  -- ---- one piece more

  module _ (now : State) (a b : D) (made : ℕ) (going : Going now a b made)
      (next : State) (c d : D) (outcome : Compacted) (config : next.config ≡ now.config)
      (gives : PiecesGive outcome now.journal 1 next.journal)
      (holds : BothRead reading a b (Holds now)
      → UnlessFaulty outcome (BothRead reading c d (Holds next)))
      (any_moment : BothRead reading a b (Holds now) → Opens a b c d (config_of now))
      (rests : Rested now.journal.side a b c d)
      (a_counts : faults a ≤ faults c) (b_counts : faults b ≤ faults d) where
    pub config_stays : next.config ≡ start.config
    config_stays = config ∙ going.config

    pub gives_so : PiecesGive outcome start.journal (made + 1) next.journal
    gives_so = gives_more start.journal now.journal next.journal made going.journal going.side
        outcome gives

    pub holds_so : BothRead reading a_old b_old (Holds start)
        → UnlessFaulty outcome (BothRead reading c d (Holds next))
    holds_so held = holds (going.holds held)

    rests_now : Rested start.journal.side a b c d
    rests_now = subst (λ s. Rested s a b c d) going.side rests

    pub rests_so : Rested start.journal.side a_old b_old c d
    rests_so = rests_joined going.rests rests_now

    pub any_moment_so : PiecesFollow reading images moment images_since
        → BothRead reading a_old b_old (Holds start) → Opens a_old b_old c d (config_of start)
    any_moment_so follow held =
        follow start.journal.side (config_of start) a_old a c b_old b d going.rests rests_now
        (going.any_moment held)
        (subst (λ (k : Config). Opens a b c d k) (ap config_in going.config)
        (any_moment (going.holds held)))

    pub a_counts_so : faults a_old ≤ faults c
    a_counts_so = omega (arith, going.a_counts, a_counts)

    pub b_counts_so : faults b_old ≤ faults d
    b_counts_so = omega (arith, going.b_counts, b_counts)

    pub failed_so : Rose (faults a) (faults c) ⊎ Rose (faults b) (faults d)
        → Rose (faults a_old) (faults c) ⊎ Rose (faults b_old) (faults d)
    failed_so (inl rose) = inl (omega (arith, going.a_counts, rose))
    failed_so (inr rose) = inr (omega (arith, going.b_counts, rose))

  -- and octets are left
  module _ (now : State) (a b : D) (made : ℕ) (going : Going now a b made)
      (next : State) (c d : D) (left : ℕ) (config : next.config ≡ now.config)
      (gives : PiecesGive (compacted.Left left) now.journal 1 next.journal)
      (stands : StandsOn reading images next.journal c d)
      (holds : BothRead reading a b (Holds now)
      → UnlessFaulty (compacted.Left left) (BothRead reading c d (Holds next)))
      (any_moment : BothRead reading a b (Holds now) → Opens a b c d (config_of now))
      (rests : Rested now.journal.side a b c d)
      (a_counts : faults a ≤ faults c) (b_counts : faults b ≤ faults d) where
    no_fault : compacted.Left left ≢ compacted.DiskFault
    no_fault same = absurd (Prim.cc)

    pub goes_on : PiecesFollow reading images moment images_since → Going next c d (made + 1)
    goes_on follow =
        let so = gives_so now a b made going next c d (compacted.Left left) config gives holds
        any_moment rests a_counts b_counts in
        record {
          config = config ∙ going.config;
          journal = so.0.journal;
          in_progress = so.1;
          side = so.2;
          stands = stands;
          holds = λ held. holds (going.holds held) no_fault;
          any_moment = any_moment_so now a b made going next c d (compacted.Left left) config gives
              holds any_moment rests a_counts b_counts follow;
          rests = rests_so now a b made going next c d (compacted.Left left) config gives holds
              any_moment rests a_counts b_counts;
          a_counts = omega (arith, going.a_counts, a_counts);
          b_counts = omega (arith, going.b_counts, b_counts);
        }
