pub mod Calls
pub mod Faults
pub mod Inside
pub mod Laws
pub mod Promise
pub mod Protocols
pub mod Slips
