pub mod Putting
pub mod Steps
pub mod Telling
pub mod Writing
