-- What calls of the journal leave of two files, told as configurations (JOURNAL, The calls, device
-- call by device call).
use Rattle.std.specs.Prelude.{◌≡◌, ◌⊎◌, ℕ, ◌+◌, List, [], ◌∷◌, ◌++◌, length}
use Rattle.config_model.specs.Configs.{Config}
use Rattle.config_model.specs.Sound.{Sound}
use Rattle.gate_journal.specs.Layout.{front}
use Rattle.gate_journal.specs.declared.answers.Appended.{Appended}
use Rattle.gate_journal.specs.declared.answers.Appended.TheVariants as appended
use Rattle.snapshot_octets.specs.Octets.{snapshot}
use Rattle.store_model.specs.Opening.{OpensAs, OpensConfig, AcceptsAll}
use Rattle.zone_journal.specs.declared.answers.Piece.{Piece}
use Rattle.zone_journal.specs.declared.answers.Piece.TheVariants as piece

-- ---- a command

-- The files open to one of two configurations.
abbrev pub OpensEither : (before after : Config) → (x y : List ℕ) → Type 0
OpensEither before after x y = OpensConfig x y before ⊎ OpensConfig x y after

-- What a crash may leave at each moment of the append of a command, by its answer: where it is
-- Full, the configuration before alone.
abbrev pub MayOpen : Appended → (before after : Config) → (x y : List ℕ) → Type 0
MayOpen appended.Done before after x y = OpensEither before after x y
MayOpen (appended.Full length) before after x y = OpensConfig x y before
MayOpen appended.DiskFault before after x y = OpensEither before after x y

-- What the files open to after the append of a command's entry.
abbrev pub AppendOpens : Appended → ℕ → List ℕ → (entries : List (List ℕ)) → (entry : List ℕ)
    → (before after : Config) → (x y : List ℕ) → Type 0
AppendOpens appended.Done generation snapshot entries entry before after x y =
    OpensAs x y generation snapshot (entries ++ entry ∷ []) after
AppendOpens (appended.Full length) generation snapshot entries entry before after x y =
    OpensAs x y generation snapshot entries before
AppendOpens appended.DiskFault generation snapshot entries entry before after x y =
    OpensAs x y generation snapshot entries before
    ⊎ OpensAs x y generation snapshot (entries ++ entry ∷ []) after

-- ---- a compaction

-- What is kept while a compaction is in progress that was begun at this place with this snapshot: it
-- is that of the sound configuration with which it was begun, and the entries since then, taken one
-- after another, make the configuration.
pub record IsPlanFor (planned : List ℕ) (from generation : ℕ) (octets : List ℕ)
    (entries : List (List ℕ)) (config : Config) : Type 0 where
  pub until : List (List ℕ)
  pub since : List (List ℕ)
  pub parts : entries ≡ until ++ since
  pub place : from ≡ length (front generation octets until)
  pub begun : Config
  pub sound : Sound begun
  pub spelled : planned ≡ snapshot begun
  pub taken : AcceptsAll begun since config

-- What the files open to after a piece: the old file, and at Done the new one, make the
-- configuration.
abbrev pub PieceOpens : Piece → (planned : List ℕ) → ℕ → List ℕ → (entries since : List (List ℕ))
    → Config → (x y : List ℕ) → Type 0
PieceOpens (piece.Running left) planned generation snapshot entries since config x y =
    OpensAs x y generation snapshot (entries ++ since) config
PieceOpens (piece.Done after) planned generation snapshot entries since config x y =
    OpensAs x y (generation + 1) planned since config
PieceOpens piece.DiskFault planned generation snapshot entries since config x y =
    OpensConfig x y config
