pub mod Conflicts
pub mod Counting
pub mod Firsts
pub mod FullGroups
pub mod Lending
pub mod Marking
pub mod Runs
