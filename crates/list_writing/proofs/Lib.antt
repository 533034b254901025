mod Members
mod Whole
