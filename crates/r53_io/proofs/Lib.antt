mod Arrivals
mod Scripts
