pub mod Valves
pub mod Laying
pub mod Listed
pub mod Pass
pub mod Blueprint
pub mod Walk
