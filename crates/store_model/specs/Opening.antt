-- What a pair of files opens to as a configuration (JOURNAL, Opening).
use Rattle.std.specs.Prelude.{◌≡◌, ◌⊎◌, ℕ, ◌+◌, ◌<◌, List, [], ◌∷◌, ◌++◌, length, drop, take, Ok}
use Rattle.byteorder.specs.Endian.{big_number}
use Rattle.command_codec.specs.Commands.{Spells}
use Rattle.command_octets.specs.declared.commands.Command.{Command}
use Rattle.config_model.specs.Applying.{Decides}
use Rattle.config_model.specs.Configs.{Config}
use Rattle.config_model.specs.Sound.{Sound}
use Rattle.config_model.specs.declared.refusals.Made.{Made}
use Rattle.gate_journal.specs.Layout.{IsOpen, OpensTo, front}
use Rattle.gate_journal.specs.Read.{IsBroken, IsRead}
use Rattle.snapshot_octets.specs.Octets.{IsSnapshot}
use Rattle.zone_journal.specs.Pairs.{IsActive, OpensPair, active_of, other_of}
use Rattle.zone_journal.specs.declared.answers.Side.{Side}
use Rattle.zone_journal.specs.declared.answers.Side.TheVariants.{A}

-- ---- a configuration from a snapshot and entries

-- The snapshot is that of a sound configuration.
pub record IsBase (snapshot : List ℕ) (config : Config) : Type 0 where
  pub is : IsSnapshot snapshot config
  pub sound : Sound config

-- The entry is the octets of a command, in either version, which the configuration accepts.
pub record AcceptsEntry (config : Config) (entry : List ℕ) (after : Config) : Type 0 where
  pub given : Command
  pub spelled : Spells entry given
  pub what : Made
  pub decides : Decides config given (Ok (after, what))

-- The configuration takes no such entry.
abbrev pub IsRefused : Config → (entry : List ℕ) → Type 0
IsRefused config entry = (after : Config) → AcceptsEntry config entry after → ⊥

-- The commands of entries are made one after another.
abbrev pub AcceptsAll : Config → (entries : List (List ℕ)) → (after : Config) → Type 0
AcceptsAll config [] after = after ≡ config
AcceptsAll config (entry ∷ entries) after =
    (middle : Config) × AcceptsEntry config entry middle × AcceptsAll middle entries after

-- A snapshot, with the commands of entries made one after another, makes a configuration.
pub record MakesConfig (snapshot : List ℕ) (entries : List (List ℕ)) (config : Config)
    : Type 0 where
  pub base : Config
  pub is_base : IsBase snapshot base
  pub taken : AcceptsAll base entries config

-- ---- a pair of files

-- The files of `a` and `b` open to this generation, snapshot and entries, which make a
-- configuration.
pub record OpensAs (x y : List ℕ) (generation : ℕ) (snapshot : List ℕ) (entries : List (List ℕ))
    (config : Config) : Type 0 where
  pub opens : OpensPair x y generation snapshot entries
  pub makes : MakesConfig snapshot entries config

-- The files of `a` and `b` open to a configuration: the snapshot of the one that decides, and the
-- commands of its entries up to the first closed gate.
pub record OpensConfig (x y : List ℕ) (config : Config) : Type 0 where
  pub generation : ℕ
  pub snapshot : List ℕ
  pub entries : List (List ℕ)
  pub opens : OpensAs x y generation snapshot entries config

-- The shape of two files: the side that decides, its generation, and its length up to the closed
-- gate behind all its entries, with that gate.
pub record IsShape (x y : List ℕ) (side : Side) (generation size : ℕ) : Type 0 where
  pub snapshot : List ℕ
  pub entries : List (List ℕ)
  pub decides : IsActive side (active_of side x y) (other_of side x y)
  pub opens : OpensTo (active_of side x y) generation snapshot entries
  pub long : size ≡ length (front generation snapshot entries) + 1

-- ---- no store

-- the snapshot of an open file, behind its length in octets 16 to 19
abbrev pub snapshot_of : (file : List ℕ) → List ℕ
snapshot_of file = take (big_number 4 (drop 16 file)) (drop 20 file)

-- The snapshot isn't whole, or is that of no sound configuration.
abbrev pub IsNoBase : (file : List ℕ) → Type 0
IsNoBase file =
    (length file < 20 + big_number 4 (drop 16 file))
    ⊎ ((config : Config) → IsBase (snapshot_of file) config → ⊥)

-- Behind this snapshot and these entries the gate is missing, or is open with no whole entry, or
-- with one that the configuration so far doesn't take.
abbrev pub IsFaulty : (place : ℕ) → (file : List ℕ) → ℕ → List ℕ → (entries : List (List ℕ))
    → Config → Type 0
IsFaulty place file generation snapshot entries before =
    IsBroken (drop place file)
    ⊎ ((entry : List ℕ)
    × IsRead (place + (5 + length entry)) file generation snapshot (entries ++ entry ∷ [])
    × IsRefused before entry)

-- At a gate, behind entries that are taken, the file is broken, or has an entry that isn't taken.
pub record IsNoEntry (place : ℕ) (file : List ℕ) : Type 0 where
  pub generation : ℕ
  pub snapshot : List ℕ
  pub entries : List (List ℕ)
  pub read : IsRead place file generation snapshot entries
  pub before : Config
  pub makes : MakesConfig snapshot entries before
  pub faulty : IsFaulty place file generation snapshot entries before

-- The file that decides has no snapshot of a sound configuration, told at its place, or at a gate
-- no entry that can be taken.
abbrev pub IsUnreadable : (place : ℕ) → (file : List ℕ) → Type 0
IsUnreadable place file = ((place ≡ 20) × IsNoBase file) ⊎ IsNoEntry place file

-- The files are no store: no file is open, or the one that decides can't be read as a
-- configuration.
abbrev pub IsNoStore : (x y : List ℕ) → Side → (place : ℕ) → Type 0
IsNoStore x y side place =
    ((side ≡ A) × (place ≡ 0) × (IsOpen x → ⊥) × (IsOpen y → ⊥))
    ⊎ (IsActive side (active_of side x y) (other_of side x y)
    × IsUnreadable place (active_of side x y))

-- ---- a store

-- Each pair of images that a crash may leave opens to a configuration.
abbrev pub IsConfigStore : {D : Type 0} → (images : D → List ℕ → Type 0) → (a b : D) → Type 0
IsConfigStore images a b = (x y : List ℕ) → images a x → images b y
    → (config : Config) × OpensConfig x y config
