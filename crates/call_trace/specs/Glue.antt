-- For the code's contracts, and no part of the meaning: the tables from which a run is named.
pub mod Channels
pub mod Ledgers
pub mod Overtaking
pub mod RunBuilder
pub mod Turns
