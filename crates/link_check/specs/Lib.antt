pub mod Prefix
pub mod Glue
