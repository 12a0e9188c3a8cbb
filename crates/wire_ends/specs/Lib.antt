pub mod Glue
pub mod Made
