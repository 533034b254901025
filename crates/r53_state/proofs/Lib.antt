mod Decided
mod Installed
mod Staying
mod Working
mod Written
