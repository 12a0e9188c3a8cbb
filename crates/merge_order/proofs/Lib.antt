pub mod Greedy
pub mod Steps
pub mod Reading
pub mod Tables
pub mod Totals
pub mod Places
pub mod Scheduling
