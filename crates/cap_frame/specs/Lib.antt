pub mod Segments
pub mod Glue
