mod Descending
mod Answering
mod Ids
mod Lasting
mod Cases
pub mod Selected
