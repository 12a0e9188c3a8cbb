pub mod Places
pub mod Turns
pub mod Kept
pub mod Keys
pub mod Lowering
pub mod Taking
pub mod OfRuns
