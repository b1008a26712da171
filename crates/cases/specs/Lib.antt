pub mod Judging
pub mod Worked
