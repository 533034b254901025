-- What the calls that read a journal give.
use Rattle.std.specs.Prelude.{◌≡◌, ◌⊎◌, ℕ, ◌+◌, ◌<◌, ◌^◌, List, [], ◌∷◌, ◌++◌, length, take, drop, Option, Some, None, Result, Ok, Err, ⊤, Vec}
use Rattle.std.specs.declared.alloc.Global.{Global}
use Rattle.byteorder.specs.Endian.{big_bytes, big_number}
use Rattle.r53_disk.specs.Disk.{Only}
use Rattle.gate_journal.specs.Layout.{front, AreShort, OpensTo, IsOpen, generation_of}
use Rattle.gate_journal.specs.declared.answers.Look.{Look}
use Rattle.gate_journal.specs.declared.answers.Look.TheVariants as look
use Rattle.gate_journal.specs.declared.answers.JournalFault.{JournalFault}
use Rattle.gate_journal.specs.declared.answers.JournalFault.TheVariants as fault

-- What a look finds: an open file, and the generation that its bytes 8 to 15 spell.
abbrev pub LookTells : Look → List ℕ → Type 0
LookTells (look.Open generation) bytes =
    IsOpen bytes × (generation ≡ generation_of bytes) × (big_bytes 8 generation ≡ take 8 (drop 8 bytes))
LookTells look.NotOpen bytes = ¬ IsOpen bytes
LookTells look.DiskFault bytes = ⊤

-- The file up to this place is a header, a snapshot and these entries.
pub record IsRead (at : ℕ) (file : List ℕ) (generation : ℕ) (snapshot : List ℕ) (entries : List (List ℕ)) : Type 0 where
  pub is : file ≡ front generation snapshot entries ++ drop at file
  pub place : at ≡ length (front generation snapshot entries)
  pub generation_fits : generation < 2 ^ 64
  pub snapshot_fits : length snapshot < 2 ^ 32
  pub entries_fit : AreShort entries

-- What stands up to a place of a file is one thing.
abbrev pub ReadToOne : Type 0
ReadToOne =
    (at : ℕ) (file : List ℕ) (g h : ℕ) (s t : List ℕ) (xs ys : List (List ℕ))
    → IsRead at file g s xs → IsRead at file h t ys → (g ≡ h) × (s ≡ t) × (xs ≡ ys)

-- the file up to this place is a header, some snapshot and some entries
pub record IsReadSo (at : ℕ) (file : List ℕ) : Type 0 where
  pub generation : ℕ
  pub snapshot : List ℕ
  pub entries : List (List ℕ)
  pub read : IsRead at file generation snapshot entries

-- A journal at a gate of its file, which a crash leaves as it reads.
pub record ReadsOn {D : Type 0} (reading : D → Option (List ℕ)) (images : D → List ℕ → Type 0) (at : ℕ) (disk : D) : Type 0 where
  pub file : (bytes : List ℕ) → reading disk ≡ Some bytes → IsReadSo at bytes
  pub durable : (bytes : List ℕ) → reading disk ≡ Some bytes → Only bytes (images disk)

-- no gate, or an open gate without a whole entry behind it
abbrev pub IsBroken : List ℕ → Type 0
IsBroken rest = (rest ≡ [])
    ⊎ ((behind : List ℕ) × (rest ≡ 1 ∷ behind) × ((length behind < 4) ⊎ (length behind < 4 + big_number 4 behind)))

-- What is read at a gate: the entry behind an open one, whose gate is at the old place, nothing more at a closed one, or a fault at its place. The place
-- moves on behind an entry and stays else.
abbrev pub NextGives : Result (Option (Vec ℕ Global)) JournalFault → (at after : ℕ) → List ℕ → ℕ → List ℕ → List (List ℕ) → Type 0
NextGives (Ok (Some entry)) at after file g s es =
    IsRead after file g s (es ++ entry.items ∷ []) × (after ≡ at + (5 + length entry.items))
NextGives (Ok None) at after file g s es = (after ≡ at) × OpensTo file g s es
NextGives (Err (fault.Bad p)) at after file g s es = (after ≡ at) × (p ≡ at) × IsBroken (drop at file)
NextGives (Err fault.DiskFault) at after file g s es = after ≡ at
NextGives (Err fault.OutOfMemory) at after file g s es = after ≡ at

-- P, where there is no open entry more
abbrev pub OnNone : Result (Option (Vec ℕ Global)) JournalFault → Type 0 → Type 0
OnNone (Ok None) P = P
OnNone (Ok (Some entry)) P = ⊤
OnNone (Err e) P = ⊤

-- P, but where an entry was read
abbrev pub UnlessSome : Result (Option (Vec ℕ Global)) JournalFault → Type 0 → Type 0
UnlessSome (Ok None) P = P
UnlessSome (Ok (Some entry)) P = ⊤
UnlessSome (Err e) P = P

-- no entry more, or the disk failed
abbrev pub IsNoMore : Result (Option (Vec ℕ Global)) JournalFault → Type 0
IsNoMore (Ok None) = ⊤
IsNoMore (Ok (Some entry)) = ⊥
IsNoMore (Err (fault.Bad place)) = ⊥
IsNoMore (Err fault.DiskFault) = ⊤
IsNoMore (Err fault.OutOfMemory) = ⊥

-- The journal and the snapshot of an open file; Bad 0 where it is not open, Bad 20 where the snapshot is not whole.
abbrev pub BeginGives : Result (ℕ × Vec ℕ Global) JournalFault → List ℕ → Type 0
BeginGives (Ok (at, snapshot)) file = IsOpen file × IsRead at file (generation_of file) snapshot.items []
BeginGives (Err (fault.Bad p)) file =
    ((p ≡ 0) × (¬ IsOpen file)) ⊎ ((p ≡ 20) × IsOpen file × (length file < 20 + big_number 4 (drop 16 file)))
BeginGives (Err fault.DiskFault) file = ⊤
BeginGives (Err fault.OutOfMemory) file = ⊤
