mod Writing
mod Minimising
