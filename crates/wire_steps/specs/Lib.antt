pub mod Glue
pub mod Parts
