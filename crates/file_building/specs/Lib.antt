pub mod Building
pub use Rattle.octets.specs.Counts
pub use Rattle.gate_journal.specs.Disk
pub use Rattle.gate_journal.specs.Layout
pub use Rattle.gate_journal.specs.Append
pub use Rattle.gate_journal.specs.Closing
pub use Rattle.gate_journal.specs.Read
pub use Rattle.gate_journal.specs.declared.answers.Appended as AppendedRecord
pub use Rattle.gate_journal.specs.declared.answers.JournalFault as JournalFaultRecord
pub use Rattle.gate_journal.specs.Synced
pub use Rattle.gate_journal.specs.DoneRecord
