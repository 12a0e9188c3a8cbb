pub mod Places
pub mod Order
pub mod OfRuns
pub mod Glue
