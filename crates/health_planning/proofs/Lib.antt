mod Anew
pub mod Built
pub mod Ending
pub mod Feeding
pub mod Few
pub mod Given
pub mod Grouped
pub mod Groups
pub mod Joined
pub mod ListedOnce
pub mod Lists
pub mod Numbers
pub mod Places
pub mod Planned
pub mod Roomy
pub mod Seeing
pub mod Told
pub mod Watching
pub mod Wiring
pub use Rattle.policy_select.proofs.Members
pub use Rattle.policy_select.proofs.Noted
pub use Rattle.policy_select.proofs.Listing as ListingOfZoneList
pub use Rattle.policy_select.proofs.MembersOfZoneList
mod Unwatched
