-- Laws over what two files open to.
use Rattle.std.specs.Prelude.{◌≡◌, ◌≢◌, ◌⊎◌, ℕ, ◌+◌, List, [], ◌∷◌, ◌++◌, length, Option, Some}
use Rattle.std.specs.Prelude.{Ok, Err}
use Rattle.command_codec.specs.Commands.{Spells}
use Rattle.command_codec.specs.Reading as commands
use Rattle.command_octets.specs.Octets.{HasSpelling, command_octets}
use Rattle.command_octets.specs.declared.commands.Command.{Command}
use Rattle.config_model.specs.Applying.{Decides}
use Rattle.config_model.specs.Configs.{Config, empty}
use Rattle.config_model.specs.Laws.{IsBounded}
use Rattle.config_model.specs.Sound.{Sound}
use Rattle.config_model.specs.declared.refusals.Made.{Made}
use Rattle.config_model.specs.declared.refusals.Refusal.{Refusal}
use Rattle.config_model.specs.declared.refusals.Refusal.TheVariants.{OutOfMemory}
use Rattle.gate_journal.specs.Layout.{IsOpen, OpensTo, front}
use Rattle.gate_journal.specs.Read.{IsRead}
use Rattle.gate_journal.specs.declared.answers.Appended.{Appended}
use Rattle.r53_disk.specs.Disk.{Rests}
use Rattle.snapshot_octets.specs.Octets.{IsSnapshot, snapshot}
use Rattle.snapshot_octets.specs.Reading as snapshots
use Rattle.store_model.specs.Leaving.{AppendOpens, IsPlanFor, MayOpen, PieceOpens}
use Rattle.store_model.specs.Opening.{IsBase, IsConfigStore, IsFaulty, IsNoStore, IsRefused}
use Rattle.store_model.specs.Opening.{IsShape}
use Rattle.store_model.specs.Opening.{MakesConfig, OpensAs, OpensConfig, AcceptsAll, AcceptsEntry}
use Rattle.store_model.specs.Opening.{snapshot_of}
use Rattle.zone_journal.specs.Appending.{AppendLeaves, MayLeave}
use Rattle.zone_journal.specs.Building.{Plan}
use Rattle.zone_journal.specs.Compacting.{IsOldOrNew, PieceLeaves}
use Rattle.zone_journal.specs.Making.{InitGives, IsNoneOrEmpty, empty_snapshot}
use Rattle.zone_journal.specs.Opening as opening
use Rattle.zone_journal.specs.Pairs.{EachPair, IsActive, BothRead, OpensPair, active_of, other_of}
use Rattle.zone_journal.specs.Standing.{StandsOn, State}
use Rattle.zone_journal.specs.declared.answers.Init.TheVariants as init
use Rattle.zone_journal.specs.declared.answers.Piece.{Piece}
use Rattle.zone_journal.specs.declared.answers.Side.{Side}
use Rattle.zone_journal.specs.declared.answers.Side.TheVariants.{A}

-- ---- one answer

-- A pair of files opens to one configuration at most.
abbrev pub PairOpensToOneConfig : Type 0
PairOpensToOneConfig = (x y : List ℕ) (config other : Config)
    → OpensConfig x y config → OpensConfig x y other → config ≡ other

-- Files that open to a configuration are not told to be no store.
abbrev pub NoStoreOrConfig : Type 0
NoStoreOrConfig = (x y : List ℕ) (config : Config) (side : Side) (place : ℕ)
    → OpensConfig x y config → IsNoStore x y side place → ⊥

-- Files that are no store are told so at one place of one side.
abbrev pub OneFault : Type 0
OneFault = (x y : List ℕ) (side other : Side) (place elsewhere : ℕ)
    → IsNoStore x y side place → IsNoStore x y other elsewhere
    → (side ≡ other) × (place ≡ elsewhere)

-- ---- what is read

-- What was read of a file up to a place has the snapshot of the file.
abbrev pub SnapshotIsRead : Type 0
SnapshotIsRead = (place generation : ℕ) (file octets : List ℕ) (entries : List (List ℕ))
    → IsRead place file generation octets entries → snapshot_of file ≡ octets

-- Where the file that decides opens to a snapshot and entries that make a configuration, so do the
-- two files.
abbrev pub DecidingOpens : Type 0
DecidingOpens = (x y : List ℕ) (side : Side) (generation : ℕ) (octets : List ℕ)
    (entries : List (List ℕ)) (config : Config)
    → IsActive side (active_of side x y) (other_of side x y)
    → OpensTo (active_of side x y) generation octets entries → MakesConfig octets entries config
    → OpensAs x y generation octets entries config

-- Octets that are read as no command are no entry that is taken.
abbrev pub UnreadAreRefused : Type 0
UnreadAreRefused = (config : Config) (entry : List ℕ) (place : ℕ)
    → commands.read entry ≡ Err place → IsRefused config entry

-- Nor are the octets of a command that is refused, but for want of memory.
abbrev pub RefusedAreRefused : Type 0
RefusedAreRefused = (config : Config) (entry : List ℕ) (given : Command) (why : Refusal)
    → Spells entry given → Decides config given (Err why) → why ≢ OutOfMemory
    → IsRefused config entry

-- The files are no store where the journal finds none in them: no file is open, or the snapshot of
-- the one that decides isn't whole.
abbrev pub BrokenIsNoStore : Type 0
BrokenIsNoStore = (x y : List ℕ) (side : Side) (place : ℕ)
    → opening.IsNoStore side place x y → IsNoStore x y side place

-- Nor where that snapshot is of no sound configuration.
abbrev pub BaselessIsNoStore : Type 0
BaselessIsNoStore = (x y : List ℕ) (side : Side) (place generation : ℕ) (octets : List ℕ)
    (entries : List (List ℕ))
    → IsActive side (active_of side x y) (other_of side x y)
    → IsRead place (active_of side x y) generation octets entries
    → ((config : Config) → IsBase octets config → ⊥) → IsNoStore x y side 20

-- Nor where at a gate behind it no entry can be taken.
abbrev pub FaultyIsNoStore : Type 0
FaultyIsNoStore = (x y : List ℕ) (side : Side) (place generation : ℕ) (octets : List ℕ)
    (entries : List (List ℕ)) (before : Config)
    → IsActive side (active_of side x y) (other_of side x y)
    → IsRead place (active_of side x y) generation octets entries
    → MakesConfig octets entries before
    → IsFaulty place (active_of side x y) generation octets entries before
    → IsNoStore x y side place

-- Octets that are read as no snapshot are no base.
abbrev pub UnreadAreBaseless : Type 0
UnreadAreBaseless = (octets : List ℕ) (place : ℕ) → snapshots.read octets ≡ Err place
    → (config : Config) → IsBase octets config → ⊥

-- Nor is the snapshot of a configuration that isn't sound.
abbrev pub UnsoundAreBaseless : Type 0
UnsoundAreBaseless = (octets : List ℕ) (config : Config) → IsSnapshot octets config
    → (Sound config → ⊥) → (other : Config) → IsBase octets other → ⊥

-- ---- entries from behind

-- Entries that are taken, and then one more, are taken together.
abbrev pub LastIsTaken : Type 0
LastIsTaken = (base config after : Config) (entries : List (List ℕ)) (entry : List ℕ)
    → AcceptsAll base entries config → AcceptsEntry config entry after
    → AcceptsAll base (entries ++ entry ∷ []) after

-- Of entries that are taken the last one is, behind the others.
abbrev pub LastWasTaken : Type 0
LastWasTaken = (base after : Config) (entries : List (List ℕ)) (entry : List ℕ)
    → AcceptsAll base (entries ++ entry ∷ []) after
    → (config : Config) × AcceptsAll base entries config × AcceptsEntry config entry after

-- With one more entry that is taken, a snapshot and entries make the configuration after it.
abbrev pub OneMoreMakes : Type 0
OneMoreMakes = (octets : List ℕ) (entries : List (List ℕ)) (before after : Config)
    (entry : List ℕ)
    → MakesConfig octets entries before → AcceptsEntry before entry after
    → MakesConfig octets (entries ++ entry ∷ []) after

-- Files that hold one more entry, which is taken, open to the configuration after it.
abbrev pub OneMoreOpens : Type 0
OneMoreOpens = (x y u v : List ℕ) (generation : ℕ) (octets : List ℕ) (entries : List (List ℕ))
    (before after : Config) (entry : List ℕ)
    → OpensAs x y generation octets entries before → AcceptsEntry before entry after
    → OpensPair u v generation octets (entries ++ entry ∷ [])
    → OpensAs u v generation octets (entries ++ entry ∷ []) after

-- A command that is accepted is an entry that is taken, as it is written.
abbrev pub AcceptedAreTaken : Type 0
AcceptedAreTaken = (config after : Config) (given : Command) (what : Made)
    → IsBounded given → HasSpelling 2 given → Decides config given (Ok (after, what))
    → AcceptsEntry config (command_octets given) after

-- What entries make of a sound configuration is sound.
abbrev pub TakenAreSound : Type 0
TakenAreSound = (base config : Config) (entries : List (List ℕ))
    → Sound base → AcceptsAll base entries config → Sound config

-- Files open to a sound configuration.
abbrev pub OpenedAreSound : Type 0
OpenedAreSound = (x y : List ℕ) (config : Config) → OpensConfig x y config → Sound config

-- ---- snapshots

-- The snapshot that is written of a sound configuration is one to begin with.
abbrev pub SoundAreBases : Type 0
SoundAreBases = (config : Config) → Sound config → IsBase (snapshot config) config

-- The snapshot of the configuration with which a compaction began, and the entries taken since,
-- open to the configuration.
abbrev pub CompactedOpens : Type 0
CompactedOpens = (x y : List ℕ) (generation : ℕ) (begun config : Config)
    (since : List (List ℕ))
    → Sound begun → AcceptsAll begun since config
    → OpensPair x y (generation + 1) (snapshot begun) since
    → OpensAs x y (generation + 1) (snapshot begun) since config

-- A compaction begins at the closed gate with the snapshot of the configuration.
abbrev pub PlanBegins : Type 0
PlanBegins = (config : Config) (from generation : ℕ) (octets : List ℕ)
    (entries : List (List ℕ))
    → Sound config → from ≡ length (front generation octets entries)
    → IsPlanFor (snapshot config) from generation octets entries config

-- An entry that is appended meanwhile is one since then.
abbrev pub PlanGoesOn : Type 0
PlanGoesOn = (planned : List ℕ) (from generation : ℕ) (octets : List ℕ)
    (entries : List (List ℕ)) (before after : Config) (entry : List ℕ)
    → IsPlanFor planned from generation octets entries before → AcceptsEntry before entry after
    → IsPlanFor planned from generation octets (entries ++ entry ∷ []) after

-- The snapshot of a compaction that is in progress makes, with the entries since it began, the
-- configuration.
abbrev pub PlanMakes : Type 0
PlanMakes = (planned : List ℕ) (from generation : ℕ) (octets : List ℕ)
    (entries : List (List ℕ)) (config : Config)
    (plan : IsPlanFor planned from generation octets entries config)
    → MakesConfig planned plan.since config

-- The snapshot of a new store is that of the configuration with nothing in it.
abbrev pub EmptyIsWritten : Type 0
EmptyIsWritten = empty_snapshot ≡ snapshot empty

-- A new store opens to the configuration with nothing in it.
abbrev pub EmptyOpens : Type 0
EmptyOpens = (x y : List ℕ) (generation : ℕ)
    → OpensPair x y generation empty_snapshot [] → OpensAs x y generation empty_snapshot [] empty

-- Where the making of a store may have written, there is none yet, or one with nothing in it.
abbrev pub NoneOrEmptyOpens : Type 0
NoneOrEmptyOpens = (x y : List ℕ) → IsNoneOrEmpty x → (IsOpen y → ⊥)
    → IsNoStore x y A 0 ⊎ OpensConfig x y empty

-- Two files have one shape at most.
abbrev pub OneShape : Type 0
OneShape = (x y : List ℕ) (side other : Side) (g h n m : ℕ) → IsShape x y side g n
    → IsShape x y other h m → (side ≡ other) × (g ≡ h) × (n ≡ m)

-- ---- what calls leave

-- Once a store is made, each pair of images opens to the configuration with nothing in it.
abbrev pub InitOpens : {D : Type 0} → (reading : D → Option (List ℕ))
    → (images : D → List ℕ → Type 0) → Type 0
InitOpens {D = D} reading images = (x y : List ℕ) (a b : D)
    → InitGives reading images init.Done x y a b
    → (u v : List ℕ) → images a u → images b v → OpensConfig u v empty

-- Where a journal stands, each pair of images opens to what the files are read as.
abbrev pub StandingOpens : {D : Type 0} → (reading : D → Option (List ℕ))
    → (images : D → List ℕ → Type 0) → Type 0
StandingOpens {D = D} reading images = (state : State) (a b : D) (x y : List ℕ) (generation : ℕ)
    (octets : List ℕ) (entries : List (List ℕ)) (config : Config)
    → StandsOn reading images state a b → reading a ≡ Some x → reading b ≡ Some y
    → OpensAs x y generation octets entries config
    → (u v : List ℕ) → images a u → images b v → OpensAs u v generation octets entries config

-- A journal stands at the closed gate of the file that decides, behind all entries to which the two
-- files open, and is of their generation: with its gate it is their shape.
abbrev pub StandingPlace : {D : Type 0} → (reading : D → Option (List ℕ))
    → (images : D → List ℕ → Type 0) → Type 0
StandingPlace {D = D} reading images = (state : State) (a b : D) (x y : List ℕ) (generation : ℕ)
    (octets : List ℕ) (entries : List (List ℕ))
    → StandsOn reading images state a b → reading a ≡ Some x → reading b ≡ Some y
    → OpensPair x y generation octets entries
    → (state.generation ≡ generation) × (state.at ≡ length (front generation octets entries))
    × OpensTo (active_of state.side x y) generation octets entries
    × IsShape x y state.side state.generation (state.at + 1)

-- Where a journal stands, each pair of images has the shape that it tells: the side that decides, its
-- generation, and its length with the closed gate.
abbrev pub StandingShapes : {D : Type 0} → (reading : D → Option (List ℕ))
    → (images : D → List ℕ → Type 0) → Type 0
StandingShapes {D = D} reading images = (state : State) (a b : D) (x y : List ℕ) (generation : ℕ)
    (octets : List ℕ) (entries : List (List ℕ))
    → StandsOn reading images state a b → reading a ≡ Some x → reading b ≡ Some y
    → OpensPair x y generation octets entries
    → (u v : List ℕ) → images a u → images b v
    → IsShape u v state.side state.generation (state.at + 1)

-- The files of a store are not told to be none.
abbrev pub StoreIsTold : {D : Type 0} → (reading : D → Option (List ℕ))
    → (images : D → List ℕ → Type 0) → Type 0
StoreIsTold {D = D} reading images = (a b : D) (x y : List ℕ) (side : Side) (place : ℕ)
    → IsConfigStore images a b → reading a ≡ Some x → reading b ≡ Some y
    → IsNoStore x y side place → ⊥

-- What a crash may leave at each moment of the append of a command's entry.
abbrev pub AppendsMayOpen : {D : Type 0} → (moment : D → ℕ)
    → (images_since : D → ℕ → List ℕ → Type 0) → Type 0
AppendsMayOpen {D = D} moment images_since = (a_old a_new b_old b_new : D) (result : Appended)
    (generation : ℕ) (octets : List ℕ) (entries : List (List ℕ)) (entry : List ℕ)
    (before after : Config)
    → MakesConfig octets entries before → AcceptsEntry before entry after
    → EachPair moment images_since a_old a_new b_old b_new
    (MayLeave result generation octets entries entry)
    → EachPair moment images_since a_old a_new b_old b_new (MayOpen result before after)

-- What is read after it.
abbrev pub AppendsOpen : {D : Type 0} → (reading : D → Option (List ℕ)) → Type 0
AppendsOpen {D = D} reading = (a b : D) (result : Appended) (generation : ℕ) (octets : List ℕ)
    (entries : List (List ℕ)) (entry : List ℕ) (before after : Config)
    → MakesConfig octets entries before → AcceptsEntry before entry after
    → BothRead reading a b (AppendLeaves result generation octets entries entry)
    → BothRead reading a b (AppendOpens result generation octets entries entry before after)

-- What a crash may leave at each moment of a piece of a compaction: the configuration.
abbrev pub PiecesMayOpen : {D : Type 0} → (moment : D → ℕ)
    → (images_since : D → ℕ → List ℕ → Type 0) → Type 0
PiecesMayOpen {D = D} moment images_since = (a_old a_new b_old b_new : D) (state : State)
    (plan : Plan) (generation : ℕ) (octets : List ℕ) (entries since : List (List ℕ))
    (config : Config)
    → MakesConfig octets (entries ++ since) config → MakesConfig plan.snapshot since config
    → EachPair moment images_since a_old a_new b_old b_new
    (IsOldOrNew state plan generation octets entries since)
    → EachPair moment images_since a_old a_new b_old b_new (λ x y. OpensConfig x y config)

-- What is read after it.
abbrev pub PiecesOpen : {D : Type 0} → (reading : D → Option (List ℕ)) → Type 0
PiecesOpen {D = D} reading = (a b : D) (result : Piece) (state : State) (plan : Plan)
    (generation : ℕ) (octets : List ℕ) (entries since : List (List ℕ)) (config : Config)
    → MakesConfig octets (entries ++ since) config → MakesConfig plan.snapshot since config
    → BothRead reading a b (PieceLeaves result state plan generation octets entries since)
    → BothRead reading a b
    (PieceOpens result plan.snapshot generation octets entries since config)

-- Where each pair of images opens to the configuration during some pieces of a compaction and during
-- more of them, it does during all: the file that decides is only read.
abbrev pub PiecesFollow : {D : Type 0} → (reading : D → Option (List ℕ))
    → (images : D → List ℕ → Type 0) → (moment : D → ℕ)
    → (images_since : D → ℕ → List ℕ → Type 0) → Type 0
PiecesFollow {D = D} reading images moment images_since = (side : Side) (config : Config)
    (a_old a_mid a_new b_old b_mid b_new : D)
    → Rests reading images moment images_since (active_of side a_old b_old)
    (active_of side a_mid b_mid)
    → Rests reading images moment images_since (active_of side a_mid b_mid)
    (active_of side a_new b_new)
    → EachPair moment images_since a_old a_mid b_old b_mid (λ x y. OpensConfig x y config)
    → EachPair moment images_since a_mid a_new b_mid b_new (λ x y. OpensConfig x y config)
    → EachPair moment images_since a_old a_new b_old b_new (λ x y. OpensConfig x y config)
