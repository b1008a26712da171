pub mod Chosen
pub mod Fast
pub mod Latest
pub mod Observing
pub mod Reading
pub mod Received
pub mod Sent
pub mod ThreeBeats
