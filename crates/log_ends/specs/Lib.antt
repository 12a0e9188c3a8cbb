pub mod Ends
pub mod Joining
pub mod Renumbering
pub mod Glue
pub mod Numbers
