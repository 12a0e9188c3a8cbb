pub mod Directions
pub mod QueuedFrames
pub mod Links
pub mod Taking
pub mod Glue
pub mod Tied
