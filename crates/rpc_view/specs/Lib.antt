pub mod Reading
pub mod Layouts
pub mod Message
pub mod Spelling
pub mod Glue
