pub mod Streamed
pub mod Glue
