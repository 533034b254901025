-- What a sound configuration gives to those that answer from it. The zones are those of the
-- configuration, each set in a slot of its own.
use Rattle.std.specs.Prelude.{◌≡◌, List}
use Rattle.check_model.specs.Checks.{Checks}
use Rattle.config_edits.specs.Laws.{hosted_in}
use Rattle.config_edits.specs.Configs.{Config}
use Rattle.config_edits.specs.Sound.{Sound}
use Rattle.engine_model.specs.Engine.{is_healthy}
use Rattle.health_index.specs.Later.{AreLater}
use Rattle.health_index.specs.Index.{Index, StandsFor, healthy_in}
use Rattle.health_index.specs.Wired.{watched_of}
use Rattle.health_model.specs.Sound.{IsSound}
use Rattle.health_model.specs.Statuses.{Report}
use Rattle.zone_lookup.specs.Groups.{Agrees}
use Rattle.config_edits.specs.Zones.{Zone}
use Rattle.zone_lookup.specs.Served.{AreServed}

-- Each zone has a set, and no group has more than 100.
abbrev pub SoundIsServed : Type 0
SoundIsServed = (zones : List Zone) (config : Config) → config.zones ≡ hosted_in zones
    → Sound config → AreServed zones

-- What its checks and sets name is there, and a recursion on health ends.
abbrev pub SoundIsWatched : Type 0
SoundIsWatched = (zones : List Zone) (config : Config) → config.zones ≡ hosted_in zones
    → Sound config → IsSound (watched_of zones config.checks)

-- An index that stands for its zones, its checks and reports says of each set what the server's test
-- of keys says of the set's key: whether it is healthy, by all reports.
abbrev pub IndexServes : Type 0
IndexServes = (zones : List Zone) (config : Config) (reports : List Report) (index : Index)
    → config.zones ≡ hosted_in zones → StandsFor zones config.checks reports index
    → Agrees zones (healthy_in index) (is_healthy config reports)

-- Checks that stay as they are follow of themselves.
abbrev pub SameAreLater : Type 0
SameAreLater = (checks : Checks) → AreLater checks checks
