pub mod Messages
pub mod OneThirdRule
pub mod UniformVoting
pub mod LeaderlessVoting
