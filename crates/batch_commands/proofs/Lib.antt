mod Changed
mod Counted
mod Firsts
mod Fullness
mod Linked
mod Sums
