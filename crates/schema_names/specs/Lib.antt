pub mod Reading
pub mod Layouts
pub mod Names
pub mod Glue
