mod Answering
mod Faces
mod InPlace
mod Missing
mod Replaced
mod Whole
