-- A store, as what a crash may leave of its two files.
use Rattle.std.specs.Prelude.{◌≡◌, ℕ, List, length}
use Rattle.gate_journal.specs.Layout.{front}
use Rattle.zone_journal.specs.Pairs.{OpensPair, OpensBy, active_of, other_of}
use Rattle.zone_journal.specs.Standing.{State}

-- The files of `a` and `b` open: to some generation, snapshot and entries.
pub record Opens (x y : List ℕ) : Type 0 where
  pub generation : ℕ
  pub snapshot : List ℕ
  pub entries : List (List ℕ)
  pub opens : OpensPair x y generation snapshot entries

-- Every image pair opens: any image of `a` with any image of `b`.
abbrev pub IsStore : {D : Type 0} → (D → List ℕ → Type 0) → (a b : D) → Type 0
IsStore images a b = (x y : List ℕ) → images a x → images b y → Opens x y

-- Every image pair opens by the journal's side, to its generation and to one snapshot and list of entries, and the gate
-- behind these is at the journal's place.
pub record HasShape {D : Type 0} (images : D → List ℕ → Type 0) (v : State) (a b : D) : Type 0 where
  pub snapshot : List ℕ
  pub entries : List (List ℕ)
  pub place : v.at ≡ length (front v.generation snapshot entries)
  pub each : (x y : List ℕ) → images a x → images b y
      → OpensBy v.side (active_of v.side x y) (other_of v.side x y) v.generation snapshot entries
