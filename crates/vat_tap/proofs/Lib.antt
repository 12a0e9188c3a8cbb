pub mod Moves
pub mod Lanes
pub mod Placing
pub mod Gathering
pub mod Draining
pub mod Taped
pub mod NewLanes
