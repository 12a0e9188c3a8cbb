pub mod Headline
pub mod Report
pub mod Lines
pub mod Explained
pub mod Refusals
pub mod Glue
pub mod Versions
