pub mod Found
pub mod Growth
pub mod Lowest
pub mod Refused
pub mod Somes
pub mod Tallies
pub mod Walks
