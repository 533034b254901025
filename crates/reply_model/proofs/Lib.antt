mod Dumped
mod Pages
mod Refusals
mod Sets
mod Vectors
