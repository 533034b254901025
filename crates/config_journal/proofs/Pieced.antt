-- The files that hold a configuration, behind a piece of a compaction.
use Rattle.std.proofs.Common.{◌≡◌, ℕ, ◌+◌, ◌-◌, List, ◌++◌, Option, None, Some, ap, sym, subst, refl, length}
use Rattle.config_journal.proofs.Told.{Told, holds_of}
use Rattle.config_journal.specs.Compacting.{UnlessFaulty, told_as}
use Rattle.config_journal.specs.Holding.{Holds}
use Rattle.config_journal.specs.States.{State, config_of}
use Rattle.r53_state.specs.Configs.{Config}
use Rattle.file_building.specs.Building.{Plan}
use Rattle.gate_journal.specs.Layout.{front}
use Rattle.r53_state.specs.States.{config_in}
use Rattle.store_model.proofs.Weakening.{leaves_weaken}
use Rattle.store_model.specs.Laws.{PiecesMayOpen, PiecesOpen, PlanMakes}
use Rattle.store_model.specs.Leaving.{IsPlanFor, PieceOpens}
use Rattle.store_model.specs.Opening.{MakesConfig, OpensAs, OpensConfig}
use Rattle.zone_journal.specs.Compacting.{IsOldOrNew, PieceLeaves, PieceMoves, UnlessFault, with_plan}
use Rattle.zone_journal.specs.Pairs.{EachPair, BothRead, OpensPair, opposite}
use Rattle.zone_journal.specs.Standing.{State as Journal, planned_length}
use Rattle.zone_journal.specs.declared.answers.Piece.{Piece}
use Rattle.zone_journal.specs.declared.answers.Piece.TheVariants as piece

-- a journal and a configuration that files hold, and a compaction in progress
module _ (old : State) (plan : Plan) (is : old.journal.plan ≡ Some plan) (x y : List ℕ)
    (h : Holds old x y) where
  pub planned : IsPlanFor plan.snapshot plan.from old.journal.generation h.snapshot h.entries
      (config_of old)
  planned = h.plan plan is

  -- the entries up to its beginning, and since
  opened : OpensPair x y old.journal.generation h.snapshot (planned.until ++ planned.since)
  opened = subst (λ es. OpensPair x y old.journal.generation h.snapshot es) planned.parts
      h.opens.opens

  makes : MakesConfig h.snapshot (planned.until ++ planned.since) (config_of old)
  makes = subst (λ es. MakesConfig h.snapshot es (config_of old)) planned.parts h.opens.makes

  makes_new : PlanMakes → MakesConfig plan.snapshot planned.since (config_of old)
  makes_new law = law plan.snapshot plan.from old.journal.generation h.snapshot h.entries
      (config_of old) planned

  -- it is that compaction's plan still, of which more is written
  goes_on : (next : ℕ) (p : Plan)
      → (with_plan old.journal (record plan { next = next })).plan ≡ Some p
      → IsPlanFor p.snapshot p.from old.journal.generation h.snapshot
      (planned.until ++ planned.since) (config_of old)
  goes_on next p same =
      let one : record plan { next = next } ≡ p = cc in
      subst (λ (q : Plan). IsPlanFor q.snapshot q.from old.journal.generation h.snapshot
      (planned.until ++ planned.since) (config_of old)) one (record {
        until = planned.until;
        since = planned.since;
        parts = refl;
        place = planned.place;
        begun = planned.begun;
        sound = planned.sound;
        spelled = planned.spelled;
        taken = planned.taken;
      })

  told_running : (next : ℕ) (u v : List ℕ)
      → OpensAs u v old.journal.generation h.snapshot (planned.until ++ planned.since)
      (config_of old)
      → Told (with_plan old.journal (record plan { next = next })) (config_of old) u v
  told_running next u v opens = record {
    octets = h.snapshot;
    entries = planned.until ++ planned.since;
    opens = opens;
    plan = goes_on next;
  }

  told_done : (at : ℕ) (u v : List ℕ)
      → OpensAs u v (old.journal.generation + 1) plan.snapshot planned.since (config_of old)
      → Told (record {
        side = opposite old.journal.side;
        generation = old.journal.generation + 1;
        at = at;
        plan = None;
      }) (config_of old) u v
  told_done at u v opens = record {
    octets = plan.snapshot;
    entries = planned.since;
    opens = opens;
    plan = λ p none. absurd (Prim.cc);
  }

  module _ (new : State) (same : new.config ≡ old.config) where
    config_same : config_of new ≡ config_of old
    config_same = ap config_in same

    pub holds_running : (left : ℕ)
        → PieceMoves (piece.Running left) old.journal plan new.journal → (u v : List ℕ)
        → PieceOpens (piece.Running left) plan.snapshot old.journal.generation h.snapshot
        planned.until planned.since (config_of old) u v → Holds new u v
    holds_running left (next, is_next, moved, left_is) u v opens =
        holds_of new (with_plan old.journal (record plan { next = next })) (config_of old) moved
        config_same u v (told_running next u v opens)

    pub holds_done : (generation : ℕ)
        → PieceMoves (piece.Done generation) old.journal plan new.journal → (u v : List ℕ)
        → PieceOpens (piece.Done generation) plan.snapshot old.journal.generation h.snapshot
        planned.until planned.since (config_of old) u v → Holds new u v
    holds_done generation (last, generation_is, moved) u v opens =
        holds_of new (record {
          side = opposite old.journal.side;
          generation = old.journal.generation + 1;
          at = planned_length old.journal plan - 1;
          plan = None;
        }) (config_of old) moved config_same u v
        (told_done (planned_length old.journal plan - 1) u v opens)

-- what a call on the journal leaves and may leave, by its plan, and by what the files opened to
module _ {D : Type 0} (reading : D → Option (List ℕ)) (moment : D → ℕ)
    (images_since : D → ℕ → List ℕ → Type 0) (old : State) (plan : Plan)
    (is : old.journal.plan ≡ Some plan) (a_old a_new b_old b_new : D)
    (result : Piece) (law : PlanMakes) (held : BothRead reading a_old b_old (Holds old)) where
  abbrev pub Reads : Type 0
  Reads = (p : Plan) (g : ℕ) (s : List ℕ) (es since : List (List ℕ)) (x y : List ℕ)
      → old.journal.plan ≡ Some p → p.from ≡ length (front g s es)
      → reading a_old ≡ Some x → reading b_old ≡ Some y → OpensPair x y g s (es ++ since)
      → BothRead reading a_new b_new (PieceLeaves result old.journal p g s es since)

  abbrev pub Has : Type 0
  Has = (p : Plan) (g : ℕ) (s : List ℕ) (es since : List (List ℕ)) (x y : List ℕ)
      → old.journal.plan ≡ Some p → p.from ≡ length (front g s es)
      → reading a_old ≡ Some x → reading b_old ≡ Some y → OpensPair x y g s (es ++ since)
      → EachPair moment images_since a_old a_new b_old b_new
      (IsOldOrNew old.journal p g s es since)

  pub leaves_so : PiecesOpen reading → Reads → BothRead reading a_new b_new
      (PieceOpens result plan.snapshot old.journal.generation held.has.snapshot
      (planned old plan is held.x held.y held.has).until (planned old plan is held.x held.y held.has).since
      (config_of old))
  leaves_so opens reads =
      let its = planned old plan is held.x held.y held.has in
      opens a_new b_new result old.journal plan old.journal.generation held.has.snapshot its.until
      its.since (config_of old) (makes old plan is held.x held.y held.has)
      (makes_new old plan is held.x held.y held.has law)
      (reads plan old.journal.generation held.has.snapshot its.until its.since held.x held.y is its.place
      held.a_reads held.b_reads (opened old plan is held.x held.y held.has))

  pub may_leave : PiecesMayOpen moment images_since → Has
      → EachPair moment images_since a_old a_new b_old b_new
      (λ x y. OpensConfig x y (config_of old))
  may_leave may has =
      let its = planned old plan is held.x held.y held.has in
      may a_old a_new b_old b_new old.journal plan old.journal.generation held.has.snapshot its.until
      its.since (config_of old) (makes old plan is held.x held.y held.has)
      (makes_new old plan is held.x held.y held.has law)
      (has plan old.journal.generation held.has.snapshot its.until its.since held.x held.y is its.place
      held.a_reads held.b_reads (opened old plan is held.x held.y held.has))

-- where the journal stands
pub stands_so : {P : Type 0} → (result : Piece) → UnlessFault result P → UnlessFaulty (told_as result) P
stands_so (piece.Running left) stands whole = stands
stands_so (piece.Done generation) stands whole = stands
stands_so piece.DiskFault stands whole = absurd (whole refl)

-- what is read after a piece
module _ {D : Type 0} (reading : D → Option (List ℕ)) (moment : D → ℕ)
    (images_since : D → ℕ → List ℕ → Type 0) (old new : State) (plan : Plan)
    (is : old.journal.plan ≡ Some plan) (same : new.config ≡ old.config)
    (a_old a_new b_old b_new : D) (law : PlanMakes) (opens : PiecesOpen reading)
    (held : BothRead reading a_old b_old (Holds old)) where
  pub holds_so : (result : Piece) → PieceMoves result old.journal plan new.journal
      → Reads reading moment images_since old plan is a_old a_new b_old b_new result law held
      → UnlessFaulty (told_as result) (BothRead reading a_new b_new (Holds new))
  holds_so (piece.Running left) moves reads whole =
      let its = planned old plan is held.x held.y held.has in
      leaves_weaken (PieceOpens (piece.Running left) plan.snapshot old.journal.generation
      held.has.snapshot its.until its.since (config_of old)) (Holds new)
      (holds_running old plan is held.x held.y held.has new same left moves) reading a_new b_new
      (leaves_so reading moment images_since old plan is a_old a_new b_old b_new
      (piece.Running left) law held opens reads)
  holds_so (piece.Done generation) moves reads whole =
      let its = planned old plan is held.x held.y held.has in
      leaves_weaken (PieceOpens (piece.Done generation) plan.snapshot old.journal.generation
      held.has.snapshot its.until its.since (config_of old)) (Holds new)
      (holds_done old plan is held.x held.y held.has new same generation moves) reading a_new b_new
      (leaves_so reading moment images_since old plan is a_old a_new b_old b_new
      (piece.Done generation) law held opens reads)
  holds_so piece.DiskFault moves reads whole = absurd (whole refl)
