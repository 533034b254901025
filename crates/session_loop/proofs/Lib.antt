mod Files
mod Joining
mod Loop
mod Turns
