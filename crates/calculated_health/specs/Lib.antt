pub mod Laws
pub mod Status
