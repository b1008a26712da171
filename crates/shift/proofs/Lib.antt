pub mod Cursor
pub mod Decimal
pub mod Gather
pub mod Words
pub mod Places
