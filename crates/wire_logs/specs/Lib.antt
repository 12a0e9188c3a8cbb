pub mod Found
pub mod Glue
pub mod Lines
