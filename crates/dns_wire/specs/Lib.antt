pub mod Data
pub mod Draft
pub mod Header
pub mod Kept
pub mod Laws
pub mod Limit
pub mod Message
pub mod Pointers
pub mod Reading
pub mod Steps
pub use Rattle.octets.specs.Numbers
pub use Rattle.rdata_layout.specs.Labels
pub use Rattle.rdata_layout.specs.Names
pub use Rattle.dns_message.specs.Edns
pub use Rattle.dns_message.specs.Judge
pub use Rattle.dns_message.specs.Question
pub use Rattle.dns_message.specs.Records
pub use Rattle.dns_message.specs.Whole
pub use Rattle.rdata_layout.specs.Layout
pub use Rattle.rdata_layout.specs.Types
pub use Rattle.dns_message.specs.Laws as LawsOfDnsMessage
pub use Rattle.dns_message.specs.declared.query.Edns as EdnsRecord
pub use Rattle.dns_message.specs.declared.query.Query as QueryRecord
pub use Rattle.dns_message.specs.declared.query.QueryRead as QueryReadRecord
