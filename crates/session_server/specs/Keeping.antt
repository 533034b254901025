-- What becomes of a configuration and of its files by a line, whatever else tells what it has.
use Rattle.std.specs.Prelude.{◌≡◌, ◌⊎◌, ℕ, List, Ok}
use Rattle.line_bounds.specs.CommandRecord.{Command}
use Rattle.line_bounds.specs.Configs.{Config}
use Rattle.line_server.specs.Leaving.{ImagesOpen}
use Rattle.line_server.specs.Stores.{StandsFor, State as Store}
use Rattle.list_sending.specs.Applying.{Decides}
use Rattle.list_sending.specs.Engine.{Engine}
use Rattle.list_sending.specs.MadeRecord.{Made}

-- The rules decided one command, which broke none of them, and it was made; or none was.
abbrev pub IsOneMore : (before after : Config) → Type 0
IsOneMore before after =
    (after ≡ before)
    ⊎ ((given : Command) × (what : Made) × Decides before given (Ok (after, what)))

-- The same of the configurations that a store stands for.
abbrev pub MakesOneMore : (old new : Store) → Type 0
MakesOneMore old new =
    (engine : Engine) → StandsFor engine old
    → (after : Engine) × IsOneMore engine.config after.config × StandsFor after new

-- Each pair of images opens to a configuration, or to that with one command more that breaks no rule.
abbrev pub OpensOneMore : {D : Type 0} → (images : D → List ℕ → Type 0) → (a b : D) → Config → Type 0
OpensOneMore images a b before =
    (after : Config) × IsOneMore before after × ImagesOpen images a b before after
