pub mod Fault
pub mod Glue
