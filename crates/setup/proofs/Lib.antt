pub mod Gathering
pub mod Sameness
pub mod Searching
pub mod Walked
pub mod Words
