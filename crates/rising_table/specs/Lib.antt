pub mod Entries
pub mod Glue
pub mod Lends
