pub mod Comparing
pub mod Cutting
pub mod Outcomes
pub mod Ways
pub mod Rising
pub mod Counting
pub mod Finding
