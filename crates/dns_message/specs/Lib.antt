pub mod Edns
pub mod Header
pub mod Judge
pub mod Laws
pub mod Question
pub mod Records
pub mod Verdict
pub mod Walk
pub mod Whole
pub use Rattle.dns_name.specs.Labels
pub use Rattle.dns_name.specs.Wire
pub use Rattle.ecs_option.specs.Grammar
pub use Rattle.ecs_option.specs.Writing
pub use Rattle.ecs_option.specs.declared.subnet.ClientSubnet as ClientSubnetRecord
