-- What the making of a store leaves.
use Rattle.std.specs.Prelude.{◌≡◌, ◌⊎◌, ℕ, ◌≤◌, List, [], ◌∷◌, ◌++◌, drop, Option, Some, ⊤}
use Rattle.file_building.specs.Disk.{Only}
use Rattle.file_building.specs.DoneRecord.{Done}
use Rattle.file_building.specs.DoneRecord.TheVariants as done
use Rattle.file_building.specs.Layout.{IsOpen, inner, OpensTo}
use Rattle.zone_journal.specs.Pairs.{Unwritten, NoneSynced, OneSynced, BothSynced}
use Rattle.zone_journal.specs.declared.answers.Side.TheVariants.{A, B}
use Rattle.zone_journal.specs.declared.answers.Init.{Init}
use Rattle.zone_journal.specs.declared.answers.Init.TheVariants as init

-- The snapshot of a store with nothing in it: version 2, next zone 1, next check 1, no checks, no zones (own).
abbrev pub empty_snapshot : List ℕ
empty_snapshot = 2 ∷ 0 ∷ 0 ∷ 0 ∷ 1 ∷ 0 ∷ 0 ∷ 0 ∷ 1 ∷ 0 ∷ 0 ∷ 0 ∷ 0 ∷ []

-- from byte 1 to the closed gate
abbrev pub empty_store : List ℕ
empty_store = inner 1 empty_snapshot ++ 0 ∷ []

-- the empty store, over what stands behind its 34 bytes
abbrev pub store_over : List ℕ → List ℕ
store_over bytes = 1 ∷ (empty_store ++ drop 34 bytes)

-- a file that is not open, or the empty store
abbrev pub IsNoneOrEmpty : List ℕ → Type 0
IsNoneOrEmpty file = (¬ IsOpen file) ⊎ OpensTo file 1 empty_snapshot []

-- the empty store is read, and is the only image
abbrev pub WritesEmpty : Done → List ℕ → Option (List ℕ) → (List ℕ → Type 0) → Type 0
WritesEmpty done.Whole bytes after images = (after ≡ Some (store_over bytes)) × Only (store_over bytes) images
WritesEmpty done.Failed bytes after images = (now : List ℕ) × (after ≡ Some now)

-- Why each answer comes, and what is read after it: a case for each. `x` and `y` are the files of `a` and `b`.
abbrev pub InitGives : {D : Type 0} → (D → Option (List ℕ)) → (D → List ℕ → Type 0) → Init → (x y : List ℕ) → (a b : D) → Type 0
InitGives reading images init.Done x y a b =
    (¬ IsOpen x) × (¬ IsOpen y) × (reading a ≡ Some (store_over x)) × Only (store_over x) (images a) × Only y (images b)
InitGives reading images (init.AlreadyAStore A) x y a b = IsOpen x × (reading a ≡ Some x) × Only x (images a) × Only y (images b)
InitGives reading images (init.AlreadyAStore B) x y a b =
    (¬ IsOpen x) × IsOpen y × (reading a ≡ Some x) × Only x (images a) × Only y (images b)
InitGives reading images init.DiskFault x y a b = ⊤

-- From the moment t of `a` and u of `b` on until now, when both had been synced and no file was open, each image pair
-- holds no open file or the empty store. Until then a crash left what it might have left at the start.
pub record NoneOrEmptyFrom {D : Type 0} (reading : D → Option (List ℕ)) (images : D → List ℕ → Type 0) (moment : D → ℕ) (images_since : D → ℕ → List ℕ → Type 0) (x y : List ℕ) (a_old a_new b_old b_new : D) : Type 0 where
  pub a_shut : ¬ IsOpen x
  pub b_shut : ¬ IsOpen y
  pub b_synced : Only y (images b_new)
  pub t : ℕ
  pub u : ℕ
  pub a_later : moment a_old ≤ t
  pub b_later : moment b_old ≤ u
  pub a_now : t ≤ moment a_new
  pub b_now : u ≤ moment b_new
  pub told : (now : List ℕ) × (reading a_new ≡ Some now)
  pub before : (c : List ℕ) → images_since a_new (moment a_old) c → images a_old c ⊎ IsNoneOrEmpty c
  pub pairs : (c d : List ℕ) → images_since a_new t c → images_since b_new u d → IsNoneOrEmpty c × (¬ IsOpen d)

-- The first sync failed, or the second one, or a look after them.
abbrev pub CameToLook : {D : Type 0} → (D → List ℕ → Type 0) → (x y : List ℕ) → (a_old a_new b_old b_new : D) → Type 0
CameToLook images x y a_old a_new b_old b_new =
    NoneSynced images a_old a_new b_old b_new ⊎ OneSynced images x a_new b_old b_new ⊎ BothSynced images x y a_new b_new

-- At each moment of the call, by its answer. Where a file is open in the reading, nothing is written.
abbrev pub InitLeaves : {D : Type 0} → (D → Option (List ℕ)) → (D → List ℕ → Type 0) → (D → ℕ) → (D → ℕ → List ℕ → Type 0) → Init → (x y : List ℕ) → (a_old a_new b_old b_new : D) → Type 0
InitLeaves reading images moment images_since init.Done x y a_old a_new b_old b_new =
    NoneOrEmptyFrom reading images moment images_since x y a_old a_new b_old b_new
InitLeaves reading images moment images_since (init.AlreadyAStore side) x y a_old a_new b_old b_new =
    Unwritten reading images moment images_since a_old a_new
InitLeaves reading images moment images_since init.DiskFault x y a_old a_new b_old b_new =
    (Unwritten reading images moment images_since a_old a_new × CameToLook images x y a_old a_new b_old b_new)
    ⊎ NoneOrEmptyFrom reading images moment images_since x y a_old a_new b_old b_new
