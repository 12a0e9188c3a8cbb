pub mod Numbers
pub mod Frames
pub mod First
pub mod Spelling
