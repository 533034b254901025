pub mod Laws
pub use Rattle.batch_json.specs.Lines
pub use Rattle.batch_json.specs.declared.asking.Line as LineRecord
pub use Rattle.page_laws.specs.Laws as LawsOfPageLaws
pub use Rattle.page_laws.specs.Outcomes
pub use Rattle.page_laws.specs.OutcomeRecord
pub use Rattle.command_bounds.specs.Laws as LawsOfCommandBounds
pub use Rattle.command_bounds.specs.Configs
pub use Rattle.command_bounds.specs.LawsOfConfigModel
pub use Rattle.command_bounds.specs.CommandRecord
