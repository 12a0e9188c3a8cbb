pub mod Types
pub mod Walks
pub mod Arrivals
pub mod Connections
pub mod Sound
pub mod Laws
pub mod Glue
