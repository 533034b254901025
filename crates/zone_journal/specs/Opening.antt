-- What the calls that open a store and read it give.
use Rattle.std.specs.Prelude.{◌≡◌, ◌⊎◌, ℕ, ◌+◌, ◌<◌, List, [], ◌∷◌, ◌++◌, length, drop, Option, Some, None, Result, Ok, Err, ⊤, Vec}
use Rattle.std.specs.declared.alloc.Global.{Global}
use Rattle.byteorder.specs.Endian.{big_number}
use Rattle.file_building.specs.Layout.{IsOpen, OpensTo, generation_of}
use Rattle.file_building.specs.Read.{IsRead, IsBroken}
use Rattle.file_building.specs.JournalFaultRecord.{JournalFault}
use Rattle.file_building.specs.JournalFaultRecord.TheVariants as journal
use Rattle.zone_journal.specs.Pairs.{active_of, other_of, IsActive, Yields, NoneSynced, OneSynced, BothSynced}
use Rattle.zone_journal.specs.Standing.{State}
use Rattle.zone_journal.specs.declared.answers.Side.{Side}
use Rattle.zone_journal.specs.declared.answers.Side.TheVariants.{A, B}
use Rattle.zone_journal.specs.declared.answers.OpenFault.{OpenFault}
use Rattle.zone_journal.specs.declared.answers.OpenFault.TheVariants as fault
use Rattle.zone_journal.specs.declared.start.Chosen.{Chosen}
use Rattle.zone_journal.specs.declared.start.Chosen.TheVariants as chosen

-- The file of this side decides, of this generation.
pub record IsChosen {D : Type 0} (reading : D → Option (List ℕ)) (side : Side) (generation : ℕ) (active other : D) : Type 0 where
  pub is_open : (x : List ℕ) → reading active ≡ Some x → IsOpen x × (generation_of x ≡ generation)
  pub yields : (y : List ℕ) → reading other ≡ Some y → Yields side generation y

-- no file is open
pub record IsNeither {D : Type 0} (reading : D → Option (List ℕ)) (a b : D) : Type 0 where
  pub of_a : (x : List ℕ) → reading a ≡ Some x → ¬ IsOpen x
  pub of_b : (y : List ℕ) → reading b ≡ Some y → ¬ IsOpen y

-- which file decides
abbrev pub Chooses : {D : Type 0} → (D → Option (List ℕ)) → Chosen → (a b : D) → Type 0
Chooses reading (chosen.File A generation) a b = IsChosen reading A generation a b
Chooses reading (chosen.File B generation) a b = IsChosen reading B generation b a
Chooses reading chosen.Neither a b = IsNeither reading a b
Chooses reading chosen.DiskFault a b = ⊤

-- what the file of this side gives, which decides
abbrev pub BeginGives : Side → Result (State × Vec ℕ Global) OpenFault → (active other : List ℕ) → Type 0
BeginGives side (Ok (v, snapshot)) active other =
    (v.side ≡ side) × IsActive side active other × IsRead v.at active v.generation snapshot.items [] × (v.plan ≡ None)
BeginGives side (Err (fault.NotAStore at place)) active other =
    (at ≡ side) × IsActive side active other × (place ≡ 20) × (length active < 20 + big_number 4 (drop 16 active))
BeginGives side (Err fault.DiskFault) active other = ⊤
BeginGives side (Err fault.OutOfMemory) active other = ⊤

-- no file is open, or the snapshot of the one that decides is not whole
abbrev pub IsNoStore : Side → ℕ → (x y : List ℕ) → Type 0
IsNoStore side place x y =
    ((side ≡ A) × (place ≡ 0) × (¬ IsOpen x) × (¬ IsOpen y))
    ⊎ (IsActive side (active_of side x y) (other_of side x y) × (place ≡ 20)
    × (length (active_of side x y) < 20 + big_number 4 (drop 16 (active_of side x y))))

-- the journal at the first gate of the file that decides, and the snapshot before it
abbrev pub OpenGives : Result (State × Vec ℕ Global) OpenFault → (x y : List ℕ) → Type 0
OpenGives (Ok (v, snapshot)) x y =
    IsActive v.side (active_of v.side x y) (other_of v.side x y)
    × IsRead v.at (active_of v.side x y) v.generation snapshot.items [] × (v.plan ≡ None)
OpenGives (Err (fault.NotAStore side place)) x y = IsNoStore side place x y
OpenGives (Err fault.DiskFault) x y = ⊤
OpenGives (Err fault.OutOfMemory) x y = ⊤

-- What a crash leaves of the files x and y after the opening, by its answer. Both were synced before either was looked
-- at; memory can be short before the first sync, or behind both.
abbrev pub OpenSyncs : {D : Type 0} → (D → List ℕ → Type 0) → Result (State × Vec ℕ Global) OpenFault → (x y : List ℕ) → (a_old a_new b_old b_new : D) → Type 0
OpenSyncs images (Ok opened) x y a_old a_new b_old b_new = BothSynced images x y a_new b_new
OpenSyncs images (Err (fault.NotAStore side place)) x y a_old a_new b_old b_new = BothSynced images x y a_new b_new
OpenSyncs images (Err fault.DiskFault) x y a_old a_new b_old b_new =
    NoneSynced images a_old a_new b_old b_new ⊎ OneSynced images x a_new b_old b_new ⊎ BothSynced images x y a_new b_new
OpenSyncs images (Err fault.OutOfMemory) x y a_old a_new b_old b_new =
    NoneSynced images a_old a_new b_old b_new ⊎ BothSynced images x y a_new b_new

-- what a read of the file of this side came to
abbrev pub on_side : Side → Result (Option (Vec ℕ Global)) JournalFault → Result (Option (Vec ℕ Global)) OpenFault
on_side side (Ok entry) = Ok entry
on_side side (Err (journal.Bad place)) = Err (fault.NotAStore side place)
on_side side (Err journal.DiskFault) = Err fault.DiskFault
on_side side (Err journal.OutOfMemory) = Err fault.OutOfMemory

-- What is read at a gate of the file that decides: the entry behind an open one, whose gate is at the old place, nothing
-- more at a closed one, or a fault at its place. The journal moves on behind an entry and stays else.
abbrev pub NextGives : Result (Option (Vec ℕ Global)) OpenFault → (old new : State) → (active : List ℕ) → List ℕ → List (List ℕ) → Type 0
NextGives (Ok (Some entry)) old new active s es =
    IsRead new.at active old.generation s (es ++ entry.items ∷ [])
    × (new ≡ record old { at = old.at + (5 + length entry.items) })
NextGives (Ok None) old new active s es = OpensTo active old.generation s es × (new ≡ old)
NextGives (Err (fault.NotAStore side place)) old new active s es =
    (side ≡ old.side) × (place ≡ old.at) × IsBroken (drop old.at active) × (new ≡ old)
NextGives (Err fault.DiskFault) old new active s es = new ≡ old
NextGives (Err fault.OutOfMemory) old new active s es = new ≡ old

-- P, where there is no open entry more
abbrev pub OnNone : Result (Option (Vec ℕ Global)) OpenFault → Type 0 → Type 0
OnNone (Ok None) P = P
OnNone (Ok (Some entry)) P = ⊤
OnNone (Err e) P = ⊤

-- P, but where an entry was read
abbrev pub UnlessSome : Result (Option (Vec ℕ Global)) OpenFault → Type 0 → Type 0
UnlessSome (Ok None) P = P
UnlessSome (Ok (Some entry)) P = ⊤
UnlessSome (Err e) P = P

-- no entry more, or a disk failed
abbrev pub IsNoMore : Result (Option (Vec ℕ Global)) OpenFault → Type 0
IsNoMore (Ok None) = ⊤
IsNoMore (Ok (Some entry)) = ⊥
IsNoMore (Err (fault.NotAStore side place)) = ⊥
IsNoMore (Err fault.DiskFault) = ⊤
IsNoMore (Err fault.OutOfMemory) = ⊥
