mod Falling
mod Joins
mod Listing
mod Judged
pub mod Mapped
mod Running
mod Told
mod Drawn
