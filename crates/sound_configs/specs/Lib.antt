pub mod Laws
pub use Rattle.config_edits.specs.Laws as Edits
pub use Rattle.config_edits.specs.Sound
pub use Rattle.health_index.specs.Wired
pub use Rattle.health_model.specs.Sound as Health
pub use Rattle.zone_lookup.specs.Served
pub use Rattle.health_index.specs.Later
pub use Rattle.health_index.specs.Index
pub use Rattle.health_index.specs.Laws as LawsOfHealthIndex
pub use Rattle.health_index.specs.Leaving
pub use Rattle.health_index.specs.Room
pub use Rattle.engine_model.specs.Compacting
pub use Rattle.engine_model.specs.Engine
pub use Rattle.engine_model.specs.declared.answers.Compacted as CompactedRecord
pub use Rattle.engine_model.specs.declared.answers.Reported as ReportedRecord
pub use Rattle.engine_model.specs.Octets
pub use Rattle.config_edits.specs.Applying
pub use Rattle.config_edits.specs.Batches
pub use Rattle.config_edits.specs.Configs
pub use Rattle.config_edits.specs.LawsOfConfigModel
pub use Rattle.config_edits.specs.NewZones
pub use Rattle.config_edits.specs.Others
pub use Rattle.config_edits.specs.Telling
pub use Rattle.config_edits.specs.InputReasonRecord
pub use Rattle.config_edits.specs.MadeRecord
pub use Rattle.config_edits.specs.RefusalRecord
pub use Rattle.config_edits.specs.OctetsOfCommandOctets
pub use Rattle.config_edits.specs.CommandRecord
pub use Rattle.config_edits.specs.BatchRecord
pub use Rattle.config_edits.specs.BatchRefusalRecord
