pub mod Fits
pub mod Spelling
pub mod Glue
pub mod Waits
