pub mod Checked
pub mod Glue
