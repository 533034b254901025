-- What a pair of files opens to, and what a crash leaves of a pair.
use Rattle.std.specs.Prelude.{◌≡◌, ◌⊎◌, ℕ, ◌<◌, ◌≤◌, List, Option, Some}
use Rattle.file_building.specs.Disk.{Only, Same}
use Rattle.file_building.specs.Layout.{IsOpen, OpensTo, generation_of}
use Rattle.zone_journal.specs.declared.answers.Side.{Side}
use Rattle.zone_journal.specs.declared.answers.Side.TheVariants.{A, B}

abbrev pub opposite : Side → Side
opposite A = B
opposite B = A

-- the one of this side, and the one of the other
abbrev pub active_of : {X : Type 0} → Side → X → X → X
active_of A a b = a
active_of B a b = b

abbrev pub other_of : {X : Type 0} → Side → X → X → X
other_of A a b = b
other_of B a b = a

-- Beside a file of this side and generation, one of the other side and that generation does not decide: where they are
-- equal, `a` does.
abbrev pub IsBelow : Side → (other generation : ℕ) → Type 0
IsBelow A other generation = other ≤ generation
IsBelow B other generation = other < generation

-- A file of the other side does not decide beside one of this side and generation.
abbrev pub Yields : Side → ℕ → List ℕ → Type 0
Yields side generation other = IsOpen other → IsBelow side (generation_of other) generation

-- The file of this side is open and decides.
abbrev pub IsActive : Side → (active other : List ℕ) → Type 0
IsActive side active other = IsOpen active × Yields side (generation_of active) other

-- The file of this side decides, and opens to this.
abbrev pub OpensBy : Side → (active other : List ℕ) → ℕ → List ℕ → List (List ℕ) → Type 0
OpensBy side active other generation snapshot entries =
    OpensTo active generation snapshot entries × Yields side generation other

-- The files of `a` and `b` open to this generation, snapshot and entries.
abbrev pub OpensPair : (x y : List ℕ) → ℕ → List ℕ → List (List ℕ) → Type 0
OpensPair x y generation snapshot entries =
    OpensBy A x y generation snapshot entries ⊎ OpensBy B y x generation snapshot entries

-- A pair of files opens to one thing.
abbrev pub PairOpensToOne : Type 0
PairOpensToOne =
    (x y : List ℕ) (g h : ℕ) (s t : List ℕ) (es fs : List (List ℕ))
    → OpensPair x y g s es → OpensPair x y h t fs → (g ≡ h) × (s ≡ t) × (es ≡ fs)

-- Each image pair since the moments old has P: any image of `a` since then with any of `b`.
pub record EachPair {D : Type 0} (moment : D → ℕ) (images_since : D → ℕ → List ℕ → Type 0) (a_old a_new b_old b_new : D) (P : List ℕ → List ℕ → Type 0) : Type 0 where
  -- both moments go on, so that this holds of what a crash leaves now
  pub a_later : moment a_old ≤ moment a_new
  pub b_later : moment b_old ≤ moment b_new
  pub each : (x y : List ℕ) → images_since a_new (moment a_old) x → images_since b_new (moment b_old) y → P x y
  -- for a run that began at an earlier moment of the one disk and has left the other one
  pub from_a : (t : ℕ) (x y : List ℕ) → t ≤ moment a_old → images_since a_new t x → images_since b_new (moment b_old) y → images_since a_old t x ⊎ P x y
  pub from_b : (t : ℕ) (x y : List ℕ) → t ≤ moment b_old → images_since a_new (moment a_old) x → images_since b_new t y → images_since b_old t y ⊎ P x y

-- What the two disks read as is told, and has P.
pub record BothRead {D : Type 0} (reading : D → Option (List ℕ)) (a b : D) (P : List ℕ → List ℕ → Type 0) : Type 0 where
  pub x : List ℕ
  pub y : List ℕ
  pub a_reads : reading a ≡ Some x
  pub b_reads : reading b ≡ Some y
  pub has : P x y

-- A call that writes nothing, and may sync: the disk reads the same, and a crash leaves nothing new.
pub record Unwritten {D : Type 0} (reading : D → Option (List ℕ)) (images : D → List ℕ → Type 0) (moment : D → ℕ) (images_since : D → ℕ → List ℕ → Type 0) (old new : D) : Type 0 where
  pub reads : reading new ≡ reading old
  pub leaves : (c : List ℕ) → images new c → images old c
  pub later : moment old ≤ moment new
  pub before : (t : ℕ) (c : List ℕ) → t ≤ moment old → images_since new t c → images_since old t c

-- No sync of the two files was done: a crash leaves what it left before.
abbrev pub NoneSynced : {D : Type 0} → (D → List ℕ → Type 0) → (a_old a_new b_old b_new : D) → Type 0
NoneSynced images a_old a_new b_old b_new = Same (images a_old) (images a_new) × Same (images b_old) (images b_new)

-- `a` alone was synced, with the file x.
abbrev pub OneSynced : {D : Type 0} → (D → List ℕ → Type 0) → (x : List ℕ) → (a_new b_old b_new : D) → Type 0
OneSynced images x a_new b_old b_new = Only x (images a_new) × Same (images b_old) (images b_new)

-- Both were synced, with the files x and y.
abbrev pub BothSynced : {D : Type 0} → (D → List ℕ → Type 0) → (x y : List ℕ) → (a_new b_new : D) → Type 0
BothSynced images x y a_new b_new = Only x (images a_new) × Only y (images b_new)
