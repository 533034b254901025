mod Assembled
mod Gathered
mod Held
