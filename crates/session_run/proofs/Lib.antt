mod Opened
mod Single
