-- Lemmas of the book. Assumes nothing.
pub mod Guarding
pub mod Naming
pub mod Places
pub mod Rounds
pub mod Sameness
pub mod Searches
pub mod Voting
