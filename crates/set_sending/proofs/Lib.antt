pub mod Next
pub mod Passed
