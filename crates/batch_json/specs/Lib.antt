pub mod Lines
pub use Rattle.line_reading.specs.Reading
pub use Rattle.line_faults.specs.Faults
pub use Rattle.line_faults.specs.Texts
pub use Rattle.command_octets.specs.Octets as Commands
pub use Rattle.command_octets.specs.declared.commands.Command as CommandRecord
pub use Rattle.set_lines.specs.ChangeLines
pub use Rattle.set_lines.specs.Sets
pub use Rattle.set_lines.specs.Values
pub use Rattle.cidr_lines.specs.Collections
