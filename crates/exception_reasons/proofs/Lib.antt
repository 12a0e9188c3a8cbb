pub mod Stepping
pub mod Writing
pub mod Taking
pub mod Plain
pub mod Short
pub mod Excepting
