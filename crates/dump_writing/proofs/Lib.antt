mod Children
mod Locations
