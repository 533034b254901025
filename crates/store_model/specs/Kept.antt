-- What keeps a store: each pair of files that a crash may leave goes on to open to a configuration
-- (JOURNAL, After a fault).
use Rattle.std.specs.Prelude.{◌≡◌, ℕ, List, [], Option, Some}
use Rattle.config_model.specs.Configs.{Config}
use Rattle.gate_journal.specs.declared.answers.Appended.{Appended}
use Rattle.r53_disk.specs.Memory.{History, IsImage}
use Rattle.store_model.specs.Leaving.{MayOpen}
use Rattle.store_model.specs.Opening.{IsConfigStore, OpensConfig}
use Rattle.zone_journal.specs.Making.{InitGives, InitLeaves}
use Rattle.zone_journal.specs.Pairs.{EachPair, Unwritten}
use Rattle.zone_journal.specs.declared.answers.Init.{Init}

-- The opening of a store leaves it one, whatever it answers.
abbrev pub OpeningKeepsStore : {D : Type 0} → (reading : D → Option (List ℕ))
    → (images : D → List ℕ → Type 0) → (moment : D → ℕ)
    → (images_since : D → ℕ → List ℕ → Type 0) → Type 0
OpeningKeepsStore {D = D} reading images moment images_since = (a_old a_new b_old b_new : D)
    → Unwritten reading images moment images_since a_old a_new
    → Unwritten reading images moment images_since b_old b_new
    → IsConfigStore images a_old b_old → IsConfigStore images a_new b_new

-- So does the making of one.
abbrev pub InitKeepsStore : {D : Type 0} → (reading : D → Option (List ℕ))
    → (images : D → List ℕ → Type 0) → (moment : D → ℕ)
    → (images_since : D → ℕ → List ℕ → Type 0) → Type 0
InitKeepsStore {D = D} reading images moment images_since = (result : Init) (x y : List ℕ)
    (a_old a_new b_old b_new : D)
    → reading a_old ≡ Some x → reading b_old ≡ Some y
    → InitGives reading images result x y a_new b_new
    → InitLeaves reading images moment images_since result x y a_old a_new b_old b_new
    → Unwritten reading images moment images_since b_old b_new
    → IsConfigStore images a_old b_old → IsConfigStore images a_new b_new

-- The append of a command leaves a store, whatever it answers.
abbrev pub AppendsKeepStore : {D : Type 0} → (images : D → List ℕ → Type 0) → (moment : D → ℕ)
    → (images_since : D → ℕ → List ℕ → Type 0) → Type 0
AppendsKeepStore {D = D} images moment images_since = (a_old a_new b_old b_new : D)
    (result : Appended) (before after : Config)
    → EachPair moment images_since a_old a_new b_old b_new (MayOpen result before after)
    → IsConfigStore images a_new b_new

-- So does a piece of a compaction.
abbrev pub PiecesKeepStore : {D : Type 0} → (images : D → List ℕ → Type 0) → (moment : D → ℕ)
    → (images_since : D → ℕ → List ℕ → Type 0) → Type 0
PiecesKeepStore {D = D} images moment images_since = (a_old a_new b_old b_new : D)
    (config : Config)
    → EachPair moment images_since a_old a_new b_old b_new (λ x y. OpensConfig x y config)
    → IsConfigStore images a_new b_new

-- Two disks in memory that are made with images of a store are one: so crashes of several runs
-- follow one another.
abbrev pub ImagesMakeStore : Type 0
ImagesMakeStore = (a b c d : History) → IsConfigStore IsImage a b
    → IsImage a c.first → c.steps ≡ [] → IsImage b d.first → d.steps ≡ []
    → IsConfigStore IsImage c d
