pub mod Siding
pub mod Raising
