pub mod Asked
pub mod Flat
pub mod InTurn
pub mod Kept
pub mod Rooms
pub mod Rowing
pub mod Runs
pub mod Told
