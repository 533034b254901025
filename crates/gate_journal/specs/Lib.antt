pub mod Append
pub mod Closing
pub mod Layout
pub mod Read
pub use Rattle.octets.specs.Counts
pub use Rattle.r53_disk.specs.Disk
pub use Rattle.r53_disk.specs.Synced
pub use Rattle.byteorder.specs.Endian
pub use Rattle.r53_disk.specs.declared.disk.Done as DoneRecord
