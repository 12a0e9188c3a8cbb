-- For the code's contracts, and no part of the meaning: the tables, and what looking back finds for them.
pub mod ArrivalTables
pub mod Asking
pub mod CallTables
pub mod ConnectionTables
pub mod FieldTargets
pub mod Kept
pub mod KindTables
pub mod LoopTables
pub mod Plain
pub mod Queues
pub mod Seen
pub mod Tables
pub mod TurnTables
pub mod Whole
