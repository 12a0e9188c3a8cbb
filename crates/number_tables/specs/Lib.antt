pub mod Types
pub mod Glue
