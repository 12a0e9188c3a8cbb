pub mod Types
pub mod Left
pub mod Glue
