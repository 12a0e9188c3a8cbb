pub mod Rest
pub mod Faults
