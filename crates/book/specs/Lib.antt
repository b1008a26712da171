pub mod Entering
pub mod Faults
pub mod Keeping
pub mod Pages
pub mod Voting
