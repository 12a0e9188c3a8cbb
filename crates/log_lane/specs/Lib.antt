pub mod Used
pub mod UsedOnce
pub mod Slim
pub mod Lanes
pub mod Glue
