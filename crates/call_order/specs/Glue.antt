-- For the code's contracts, and no part of the meaning: what is kept of the records that vats took.
pub mod Deeds
pub mod Names
pub mod UnderWay
pub mod Told
pub mod Tables
pub mod Counts
pub mod Reached
