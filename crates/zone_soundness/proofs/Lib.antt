pub mod Answered
pub mod Firsts
pub mod Rising
pub mod There
pub mod Whole
