mod Faultless
mod Filled
pub mod Matched
pub mod Named
mod One
mod Reading
pub mod Taken
