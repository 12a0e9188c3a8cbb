pub mod Parser
pub mod Spelled
pub mod TakenWords
