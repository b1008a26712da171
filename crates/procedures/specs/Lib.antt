pub mod Fast
pub mod Latest
pub mod Licence
pub mod Observing
pub mod Published
pub mod Received
pub mod Laws
