pub mod Tickets
pub mod Glue
