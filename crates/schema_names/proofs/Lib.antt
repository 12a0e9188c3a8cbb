pub mod Running
pub mod Parts
pub mod Loops
pub mod Letters
