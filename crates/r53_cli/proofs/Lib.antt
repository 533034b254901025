pub mod Addresses
mod Completing
pub mod Endings
pub mod Forms
pub mod Lines
pub mod Numbers
pub mod OnceWords
pub mod Responses
pub mod Statuses
pub mod Streams
pub mod Vectors
mod Running
