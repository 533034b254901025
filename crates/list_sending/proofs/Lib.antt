pub mod Next
pub mod Paged
