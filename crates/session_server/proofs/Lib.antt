mod Arms
pub mod Files
mod Keeping
mod Lines
pub mod Asked
