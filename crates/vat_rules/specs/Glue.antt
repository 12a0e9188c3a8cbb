-- For the code's contracts, and no part of the meaning: how the facts of a record are looked up and kept.
pub mod Asked
pub mod Auditing
pub mod ByKind
pub mod Compact
pub mod Facts
pub mod Roles
pub mod Taking
pub mod Viewed
