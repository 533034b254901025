pub use Rattle.zone_journal.specs.Standing
