pub mod Members
pub mod Adding
pub mod Reading
