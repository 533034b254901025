mod Changed
mod Named
