pub mod Kinds
pub mod Orders
pub mod Rows
pub mod Lawful
