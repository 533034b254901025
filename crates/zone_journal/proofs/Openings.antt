-- What the calls that open a store give, by the side that decides.
use Rattle.std.proofs.Common.{◌≡◌, ◌⊎◌, inr, ⊎_elim, ℕ, List, [], Option, Some, None, Result, Ok, Err, Vec, refl, sym, ◌∙◌, ap, subst}
use Rattle.std.specs.declared.alloc.Global.{Global}
use Rattle.file_building.specs.Append.{StandsOn as EndsOn}
use Rattle.file_building.specs.Read.{IsRead, ReadsOn as ReadsFile, NextGives as NextOfFile, OnNone as FileOnNone, UnlessSome as FileUnlessSome, IsNoMore as FileIsNoMore}
use Rattle.file_building.specs.Disk.{Rests}
use Rattle.file_building.proofs.Moments.{only_still}
use Rattle.file_building.specs.JournalFaultRecord.{JournalFault}
use Rattle.file_building.specs.JournalFaultRecord.TheVariants as journal
use Rattle.zone_journal.specs.Pairs.{IsActive, Yields, active_of, other_of}
use Rattle.file_building.specs.Building.{Plan}
use Rattle.zone_journal.specs.Standing.{State, ReadsWith, StandsWith}
use Rattle.zone_journal.specs.Opening.{BeginGives, OpenGives, IsNoStore, NextGives, OnNone, UnlessSome, IsNoMore, on_side}
use Rattle.zone_journal.specs.declared.answers.Side.{Side}
use Rattle.zone_journal.specs.declared.answers.Side.TheVariants.{A, B}
use Rattle.zone_journal.specs.declared.answers.OpenFault.{OpenFault}
use Rattle.zone_journal.specs.declared.answers.OpenFault.TheVariants as fault

pub from_a : (r : Result (State × Vec ℕ Global) OpenFault) (x y : List ℕ) → BeginGives A r x y
    → OpenGives r x y
from_a (Ok (v, snapshot)) x y gives =
    subst (λ side. IsActive side (active_of side x y) (other_of side x y)
    × IsRead v.at (active_of side x y) v.generation snapshot.items []
    × (v.plan ≡ None)) (sym gives.0) (gives.1, gives.2, gives.3)
from_a (Err (fault.NotAStore side place)) x y gives =
    subst (λ s. IsNoStore s place x y) (sym gives.0) (inr (gives.1, gives.2, gives.3))
from_a (Err fault.DiskFault) x y gives = tt
from_a (Err fault.OutOfMemory) x y gives = tt

pub from_b : (r : Result (State × Vec ℕ Global) OpenFault) (x y : List ℕ) → BeginGives B r y x
    → OpenGives r x y
from_b (Ok (v, snapshot)) x y gives =
    subst (λ side. IsActive side (active_of side x y) (other_of side x y)
    × IsRead v.at (active_of side x y) v.generation snapshot.items []
    × (v.plan ≡ None)) (sym gives.0) (gives.1, gives.2, gives.3)
from_b (Err (fault.NotAStore side place)) x y gives =
    subst (λ s. IsNoStore s place x y) (sym gives.0) (inr (gives.1, gives.2, gives.3))
from_b (Err fault.DiskFault) x y gives = tt
from_b (Err fault.OutOfMemory) x y gives = tt

stayed : (old new : State) → new ≡ record old { at = new.at } → new.at ≡ old.at → new ≡ old
stayed old new moved stays = moved ∙ ap (λ n. record old { at = n }) stays

pub next_gives : (r : Result (Option (Vec ℕ Global)) JournalFault) (old new : State)
    (active s : List ℕ) (es : List (List ℕ)) → new ≡ record old { at = new.at }
    → NextOfFile r old.at new.at active old.generation s es
    → NextGives (on_side old.side r) old new active s es
next_gives (Ok (Some entry)) old new active s es moved gives =
    (gives.0, moved ∙ ap (λ n. record old { at = n }) gives.1)
next_gives (Ok None) old new active s es moved gives = (gives.1, stayed old new moved gives.0)
next_gives (Err (journal.Bad place)) old new active s es moved gives =
    (refl, gives.1, gives.2, stayed old new moved gives.0)
next_gives (Err journal.DiskFault) old new active s es moved gives = stayed old new moved gives
next_gives (Err journal.OutOfMemory) old new active s es moved gives = stayed old new moved gives

-- a journal that has read to its file's end stands there, with no compaction in progress
pub stands_there : {D : Type 0} (reading : D → Option (List ℕ)) (images : D → List ℕ
    → Type 0) (moment : D → ℕ) (images_since : D → ℕ → List ℕ
    → Type 0) (v : State) (old new other : D)
    → ReadsWith reading images v old other → Rests reading images moment images_since old new → (at : ℕ)
    → EndsOn reading images at new → StandsWith reading images (record v { at = at }) new other
stands_there reading images moment images_since v old new other reads rests at ends = record {
  journal = ends;
  generation = λ x told. reads.generation x (sym rests.reads ∙ told);
  fits = reads.fits;
  yields = λ y told c now. subst (Yields v.side v.generation) (sym (reads.durable y told c now))
      (reads.yields y told);
  idle = λ none y told. reads.durable y told;
  plan = λ p is. absurd (never p is);
  underway = λ p is. absurd (never p is);
  copied = λ p is. absurd (never p is);
}
  where
    never : (p : Plan) → v.plan ≡ Some p → ⊥
    never p is = let none : Path (Option Plan) None (Some p) = sym reads.no_plan ∙ is in Prim.cc

-- a journal at a gate of its file, which nothing wrote
module _ {D : Type 0} (reading : D → Option (List ℕ)) (images : D → List ℕ → Type 0) (moment : D
    → ℕ) (images_since : D → ℕ → List ℕ → Type 0)
    (v : State) (old new other : D) (rests : Rests reading images moment images_since old new) where
  pub reads_still : ReadsWith reading images v old other → (at : ℕ) → ReadsFile reading images at new
      → ReadsWith reading images (record v { at = at }) new other
  reads_still reads at here = record {
    journal = here;
    generation = λ x told. reads.generation x (sym rests.reads ∙ told);
    fits = reads.fits;
    yields = reads.yields;
    durable = reads.durable;
    no_plan = reads.no_plan;
  }

  pub stands_still : StandsWith reading images v old other → StandsWith reading images v new other
  stands_still stands = record {
    journal = record {
      within = stands.journal.within;
      file = λ b told. stands.journal.file b (sym rests.reads ∙ told);
      durable = λ b told. only_still rests (stands.journal.durable b (sym rests.reads ∙ told));
    };
    generation = λ x told. stands.generation x (sym rests.reads ∙ told);
    fits = stands.fits;
    yields = stands.yields;
    idle = stands.idle;
    plan = stands.plan;
    underway = stands.underway;
    copied = λ p is x y told_x told_y. stands.copied p is x y (sym rests.reads ∙ told_x) told_y;
  }

  pub stands_at : StandsWith reading images v old other → (at : ℕ) → at ≡ v.at
      → StandsWith reading images (record v { at = at }) new other
  stands_at stands at same =
      subst (λ n. StandsWith reading images (record v { at = n }) new other) (sym same)
      (stands_still stands)

  pub at_none : (r : Result (Option (Vec ℕ Global)) JournalFault) (side : Side) (at : ℕ)
      → FileOnNone r (EndsOn reading images at new)
      → FileUnlessSome r (at ≡ v.at)
      → (ReadsWith reading images v old other ⊎ StandsWith reading images v old other)
      → OnNone (on_side side r) (StandsWith reading images (record v { at = at }) new other)
  at_none (Ok (Some entry)) side at ends stays on = tt
  at_none (Ok None) side at ends stays on =
      ⊎_elim (λ reads. stands_there reading images moment images_since v old new other reads rests
      at ends) (λ stands. stands_at stands at stays) on
  at_none (Err (journal.Bad place)) side at ends stays on = tt
  at_none (Err journal.DiskFault) side at ends stays on = tt
  at_none (Err journal.OutOfMemory) side at ends stays on = tt

  pub unless_some : (r : Result (Option (Vec ℕ Global)) JournalFault) (side : Side) (at : ℕ)
      → FileUnlessSome r (at ≡ v.at)
      → StandsWith reading images v old other
      → UnlessSome (on_side side r) (StandsWith reading images (record v { at = at }) new other)
  unless_some (Ok (Some entry)) side at stays stands = tt
  unless_some (Ok None) side at stays stands = stands_at stands at stays
  unless_some (Err (journal.Bad place)) side at stays stands = stands_at stands at stays
  unless_some (Err journal.DiskFault) side at stays stands = stands_at stands at stays
  unless_some (Err journal.OutOfMemory) side at stays stands = stands_at stands at stays

pub no_more : (r : Result (Option (Vec ℕ Global)) JournalFault) (side : Side) → FileIsNoMore r
    → IsNoMore (on_side side r)
no_more (Ok (Some entry)) side none = none
no_more (Ok None) side none = tt
no_more (Err (journal.Bad place)) side none = none
no_more (Err journal.DiskFault) side none = tt
no_more (Err journal.OutOfMemory) side none = none
