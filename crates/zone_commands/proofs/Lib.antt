mod Closed
mod Named
mod Opened
