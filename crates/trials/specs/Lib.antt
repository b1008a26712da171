pub mod Readings
pub mod Unison
pub mod UnisonLaws
pub mod Worked
