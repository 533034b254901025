-- Zones one after another, by rising number.
use Rattle.std.specs.Prelude.{ℕ, List, nat_lt}
use Rattle.std.specs.List.{filter}
use Rattle.config_edits.specs.Zones.{Zone}

-- the zones of numbers above one
abbrev pub above : List Zone → (id : ℕ) → List Zone
above zones id = filter (λ (zone : Zone). nat_lt id zone.id) zones
