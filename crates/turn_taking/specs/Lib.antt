pub mod Lanes
pub mod Turned
pub mod Pass
pub mod WholeCase
pub mod Followed
pub mod Turns
pub mod Orders
pub mod Glue
