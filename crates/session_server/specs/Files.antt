-- What the two files of a server open to.
use Rattle.std.specs.Prelude.{ℕ, List}
use Rattle.line_bounds.specs.Configs.{Config}
use Rattle.line_server.specs.Opening.{IsShape, OpensConfig}
use Rattle.list_sending.specs.Engine.{Engine}
use Rattle.zone_journal.specs.declared.answers.Side.{Side}

-- Each pair of images opens to a configuration.
abbrev pub FilesOpen : {D : Type 0} → (images : D → List ℕ → Type 0) → (a b : D) → Config → Type 0
FilesOpen images a b config =
    (x y : List ℕ) → images a x → images b y → OpensConfig x y config

-- Each pair of images opens to the configuration of a server, and is of the shape of its journal: of
-- the side that decides, its generation and its length, none of which a compaction that isn't done has
-- changed.
pub record AreFilesOf {D : Type 0} (images : D → List ℕ → Type 0) (a b : D) (engine : Engine)
    : Type 0 where
  pub opens : FilesOpen images a b engine.config
  pub shape : (x y : List ℕ) → images a x → images b y
      → IsShape x y engine.journal.side engine.journal.generation engine.journal.length

-- Each pair of images opens to this configuration, and all are of one shape.
pub record AreOpenAlike {D : Type 0} (images : D → List ℕ → Type 0) (a b : D) (config : Config)
    : Type 0 where
  pub opens : FilesOpen images a b config
  pub side : Side
  pub generation : ℕ
  pub size : ℕ
  pub shape : (x y : List ℕ) → images a x → images b y → IsShape x y side generation size
