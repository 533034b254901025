mod Accepted
mod Numbers
mod Short
mod Spelled
