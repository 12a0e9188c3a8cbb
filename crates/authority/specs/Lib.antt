pub mod Explained
pub mod Glue
pub mod Records
pub mod Shown
