pub mod Judgement
pub mod Judging
pub mod OptionLists
pub mod Owners
pub mod Question
pub mod Vectors
pub mod Walking
